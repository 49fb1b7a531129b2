-- With those that are left, the ends so far give the ends of both.
use Rattle.std.proofs.Common.{◌≡◌, drop}
use Rattle.boxes.specs.RisingEnds.{ends_of}
use Rattle.boxes.specs.Rising.{insert_all}
use Rattle.boxes.proofs.rising_ends.RisingEnds.joined.Given as goal

abbrev pub invariant-loop-end : goal.invariant-loop-end
invariant-loop-end l = insert_all (drop l.end-index (ends_of l.more)) (ends_of l.both) ≡ insert_all (ends_of l.more) (ends_of l.self)
