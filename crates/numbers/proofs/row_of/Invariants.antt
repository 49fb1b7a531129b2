-- The words so far write the numbers of the row.
use Rattle.std.proofs.Common.{◌≡◌, ℕ, ◌<◌, ◌≤◌, [], length, get_or}
use Rattle.numbers.specs.Numbers.{Writes}
use Rattle.numbers.specs.Words.{words}
use Rattle.numbers.proofs.row_of.Given as goal

abbrev pub invariant-loop-word : goal.invariant-loop-word
invariant-loop-word l = (l.count ≡ length l.yielded) × (length l.first ≡ 8)
    × ((j : ℕ) → j < l.count → (n : ℕ) × Writes (get_or (words l.fn.mark l.line) j []) n × (j < 8 → get_or l.first j 0 ≡ n))
    × ((j : ℕ) → l.count ≤ j → get_or l.first j 0 ≡ 0)
