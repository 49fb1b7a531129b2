-- Those passed stand below the place.
use Rattle.std.proofs.Common.{◌≡◌, ℕ, ◌≤◌, List, length, take}
use Rattle.boxes.specs.Cuts.{Path}
use Rattle.boxes.specs.GridBoxes.{box_of}
use Rattle.boxes.specs.KeyRanges.{lowest_of, highest_of}
use Rattle.promise.specs.State.{BucketBytes}
use Rattle.grid.specs.Walks.{wanted, PassedBucket}
use Rattle.grid.proofs.walk.Walk.pass_records.Given as goal

abbrev pub invariant-loop-place : goal.invariant-loop-place
invariant-loop-place g l =
    let m = g.K.Kind.meaning l.self.kind.now in
    (length l.buffer ≡ length l.initial.buffer)
    × (l.fn.so_far.end ≤ length l.initial.buffer → l.end ≤ length l.buffer)
    × ((b : Path) (rs : List (List ℕ)) → BucketBytes m b rs l.page
    → PassedBucket (wanted m (lowest_of l.self.range) (highest_of l.self.range) (box_of l.self.inner)) (take l.place rs) l.fn.so_far l.initial.buffer (record { number = l.number; end = l.end }) l.buffer)
