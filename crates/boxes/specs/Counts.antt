-- How many lower ends a box may have in each key for its boundaries and cells to be counted.
use Rattle.std.specs.Prelude.{ℕ, ◌^◌, ◌<◌, ◌≤◌, List, length, sum, slice_index}

-- at most four numbers, each at most a power of two, whose product is at most 2 to the 60
abbrev pub Countable : List ℕ → Type 0
Countable ns = (es : List ℕ) × (length ns ≤ length es) × (length es ≤ 4) × (sum es ≤ 60) × ((i : ℕ) → i < length ns → slice_index ns i ≤ 2 ^ slice_index es i)
