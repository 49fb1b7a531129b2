-- The readings so far, and those of the rows to come, are all.
use Rattle.std.proofs.Common.{◌≡◌, ◌++◌, drop, vec_items}
use Rattle.sheet.specs.Readings.{readings_of}
use Rattle.sheet.proofs.judging.readings_of.Given as goal

abbrev pub invariant-loop-row : goal.invariant-loop-row
invariant-loop-row l = vec_items l.readings ++ readings_of l.row (drop l.row l.verdicts) ≡ readings_of 0 l.verdicts
