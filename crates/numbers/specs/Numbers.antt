-- Whole numbers as they are written: in decimal, without leading zeros.
use Rattle.std.specs.Prelude.{◌≡◌, ℕ, ◌+◌, ◌-◌, ◌*◌, ◌<◌, ◌≤◌, true, false, List, [], ◌∷◌, map, length, Some, None, decimal, Option, slice_index}
use Rattle.std.specs.List.{AllByRecursion}
use Rattle.std.specs.Str.{all_ascii_digits}
use Rattle.numbers.specs.declared.Row.{Row}
use Rattle.numbers.specs.Words.{words}

-- the value of a text of digits, after the number n
abbrev pub value_on : ℕ → List ℕ → ℕ
value_on n [] = n
value_on n (b ∷ bs) = value_on (10 * n + (b - 48)) bs

-- the value of a text if all its bytes are digits
abbrev pub DigitsRead : List ℕ → Option ℕ → Type 0
DigitsRead bs (Some n) = (all_ascii_digits bs ≡ true) × (n ≡ value_on 0 bs)
DigitsRead bs None = all_ascii_digits bs ≡ false

-- the text writes the number n, not above m
abbrev pub WritesUpTo : ℕ → List ℕ → ℕ → Type 0
WritesUpTo m bs n = (n ≤ m) × (bs ≡ decimal n)

-- the number that the text writes, or it writes none
abbrev pub WholeUpTo : ℕ → List ℕ → Option ℕ → Type 0
WholeUpTo m bs (Some n) = WritesUpTo m bs n
WholeUpTo m bs None = (n : ℕ) → WritesUpTo m bs n → ⊥

-- a whole number is below 2 to the 32
abbrev pub Writes : List ℕ → ℕ → Type 0
Writes bs n = WritesUpTo 4294967295 bs n

abbrev pub WholeRead : List ℕ → Option ℕ → Type 0
WholeRead bs r = WholeUpTo 4294967295 bs r

-- the line writes these numbers, each below 2 to the 32, with single marks between them
abbrev pub WrittenAt : ℕ → List ℕ → List ℕ → Type 0
WrittenAt mark line ns = (words mark line ≡ map decimal ns) × AllByRecursion (λ n. n ≤ 4294967295) ns

-- the numbers that the line writes, and no others: how many there are and the first eight, zero where there is none; or it writes no numbers
abbrev pub RowReadAt : ℕ → List ℕ → Option Row → Type 0
RowReadAt mark line (Some r) = (ns : List ℕ) × WrittenAt mark line ns × ((ms : List ℕ) → WrittenAt mark line ms → ms ≡ ns) × (r.count ≡ length ns) × ((j : ℕ) → j < 8 → slice_index r.first j ≡ slice_index ns j)
RowReadAt mark line None = (ns : List ℕ) → WrittenAt mark line ns → ⊥

-- the mark is a space
abbrev pub Written : List ℕ → List ℕ → Type 0
Written line ns = WrittenAt 32 line ns

abbrev pub RowRead : List ℕ → Option Row → Type 0
RowRead line r = RowReadAt 32 line r
