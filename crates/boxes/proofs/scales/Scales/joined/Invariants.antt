-- With the ends that follow: the keys so far have the ends of both, and the others stay.
use Rattle.std.proofs.Common.{◌≡◌, ℕ, ◌<◌, ◌≤◌, ◌++◌, [], map, length, get_or, drop}
use Rattle.boxes.specs.RisingEnds.{ends_of}
use Rattle.boxes.specs.Scales.{scale, both_scales}
use Rattle.boxes.proofs.scales.Scales.joined.Given as goal

abbrev pub invariant-loop-key : goal.invariant-loop-key
invariant-loop-key l = (length (l.scale-items ++ drop l.keys l.self.ends) ≡ 4) × ((i : ℕ) → i < l.key → get_or (map ends_of (l.scale-items ++ drop l.keys l.self.ends)) i [] ≡ both_scales l.self l.other i)
    × ((i : ℕ) → l.key ≤ i → get_or (map ends_of (l.scale-items ++ drop l.keys l.self.ends)) i [] ≡ scale l.self i)
