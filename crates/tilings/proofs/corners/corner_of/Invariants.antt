-- What is left decides.
use Rattle.tilings.proofs.Cornering.{Turning}
use Rattle.tilings.proofs.corners.corner_of.Given as goal

abbrev pub invariant-loop-key : goal.invariant-loop-key
invariant-loop-key l = Turning l.low l.scales.counts.now l.scales.ends.now l.point l.number l.key l.from l.left l.rest
