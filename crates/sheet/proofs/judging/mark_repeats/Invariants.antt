-- The rows are marked of which one of the readings so far repeats a point.
use Rattle.std.proofs.Common.{◌+◌, length}
use Rattle.sheet.specs.Readings.{Marked}
use Rattle.sheet.proofs.judging.mark_repeats.Given as goal

abbrev pub invariant-loop-before : goal.invariant-loop-before
invariant-loop-before l = Marked (length l.yielded + 1) l.sorted l.initial.verdicts l.verdicts
