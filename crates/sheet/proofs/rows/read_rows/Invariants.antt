-- The rows so far are read, and those from `start` on are the rest.
use Rattle.std.proofs.Common.{◌≡◌, ℕ, ◌+◌, ◌-◌, ◌<◌, ◌≤◌, [], length, get_or, drop, vec_items}
use Rattle.sheet.specs.declared.verdict.Verdict.TheVariants.{NoPoint}
use Rattle.sheet.specs.Lines.{lines}
use Rattle.sheet.specs.Rows.{RowRead}
use Rattle.sheet.proofs.rows.read_rows.Given as goal

abbrev pub invariant-loop-start : goal.invariant-loop-start
invariant-loop-start l = (drop (length (vec_items l.verdicts)) (lines (drop l.from l.text)) ≡ lines (drop l.start l.text))
    × (length (vec_items l.verdicts) ≤ length (lines (drop l.from l.text)))
    × ((i : ℕ) → i < length (vec_items l.verdicts) → RowRead l.space (get_or (lines (drop l.from l.text)) i []) (get_or (vec_items l.verdicts) i NoPoint))

abbrev pub decreases-loop-start : goal.decreases-loop-start
decreases-loop-start l = length l.text + 1 - l.start
