-- The scales of the keys so far stand side by side.
use Rattle.tilings.proofs.Laying.{LaidSo}
use Rattle.tilings.proofs.collecting.collect_scales.Given as goal

abbrev pub invariant-loop-key : goal.invariant-loop-key
invariant-loop-key l = LaidSo l.inner l.tiles l.key l.from l.counts l.ends
