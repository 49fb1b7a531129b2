-- The cells so far are painted.
use Rattle.tilings.proofs.Painting.{PaintedSo}
use Rattle.tilings.proofs.naming.paint.Given as goal

abbrev pub invariant-loop-number : goal.invariant-loop-number
invariant-loop-number g l = PaintedSo l.image l.low l.outer l.named l.initial.cell-items l.number l.cell-items
