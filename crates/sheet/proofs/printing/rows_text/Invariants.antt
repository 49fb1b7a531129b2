-- The text so far, and that of the rows to come, is all.
use Rattle.std.proofs.Common.{◌≡◌, ◌+◌, ◌++◌, drop, string_bytes}
use Rattle.sheet.specs.Printed.{rows_text}
use Rattle.sheet.proofs.printing.rows_text.Given as goal

abbrev pub invariant-loop-row : goal.invariant-loop-row
invariant-loop-row l = string_bytes l.out ++ rows_text (l.row + 2) (drop l.row l.verdicts) ≡ rows_text 2 l.verdicts
