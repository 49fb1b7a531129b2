-- The keys so far are counted.
use Rattle.std.proofs.Common.{◌≡◌, ℕ, ◌<◌, length, get_or}
use Rattle.std.specs.List.Sorted.{IsPermutation}
use Rattle.boxes.specs.Directories.{ends}
use Rattle.boxes.specs.Spaces.{widths_of, order_of}
use Rattle.boxes.proofs.OfRoots.{all_directories}
use Rattle.boxes.proofs.measuring.root_counts.Given as goal

abbrev pub invariant-loop-key : goal.invariant-loop-key
invariant-loop-key l = (length l.count-items ≡ l.space.keys) × IsPermutation l.initial.points l.points
    × ((i : ℕ) → i < l.key → get_or l.count-items i 0 ≡ ends (widths_of l.space) (order_of l.space) (all_directories l.space l.capacity l.initial.points) i)
