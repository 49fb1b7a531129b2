-- The lines of a text.
use Rattle.std.specs.Prelude.{ℕ, if◌then◌else◌, List, [], ◌∷◌, ◌==◌}

-- a byte more in front of the first line
abbrev pub begin : ℕ → List (List ℕ) → List (List ℕ)
begin b [] = (b ∷ []) ∷ []
begin b (l ∷ ls) = (b ∷ l) ∷ ls

-- a line ends at a line feed, byte 10, which is no part of it; the last may lack it if it is not empty
abbrev pub lines : List ℕ → List (List ℕ)
lines [] = []
lines (b ∷ bs) = if b == 10 then [] ∷ lines bs else begin b (lines bs)
