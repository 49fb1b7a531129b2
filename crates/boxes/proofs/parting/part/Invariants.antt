-- The points so far stand by their halves.
use Rattle.boxes.proofs.Sides.{Standing}
use Rattle.boxes.proofs.parting.part.Given as goal

abbrev pub invariant-loop-i : goal.invariant-loop-i
invariant-loop-i l = Standing l.inner.space.now l.inner.level l.initial.points l.i l.points l.lower
