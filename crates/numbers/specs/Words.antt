-- Text in parts between marks.
use Rattle.std.specs.Prelude.{◌≡◌, ℕ, ◌<◌, ◌≤◌, ◌⊎◌, List, length, ◌==◌, ◌≢◌, slice_index}
use Rattle.std.specs.List.{slice_split}

-- the words of a text, between single marks: one more than there are marks, empty ones too
abbrev pub words : ℕ → List ℕ → List (List ℕ)
words m bs = slice_split (λ b. b == m) bs

-- r is the first place from `from` on at which m stands in the text, or its length where there is none
abbrev pub FirstAt : List ℕ → ℕ → ℕ → ℕ → Type 0
FirstAt bs from m r = (r ≤ length bs) × ((i : ℕ) → from ≤ i → i < r → slice_index bs i ≢ m) × ((r ≡ length bs) ⊎ ((from ≤ r) × (r < length bs) × (slice_index bs r ≡ m)))
