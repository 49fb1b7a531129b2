-- The first place with a property.
use Rattle.std.specs.Prelude.{ℕ, ◌<◌, Some, None, Option}

-- the first of n places at which P holds, or none
abbrev pub FirstWith : (ℕ → Type 0) → ℕ → Option ℕ → Type 0
FirstWith P n (Some i) = (i < n) × P i × ((k : ℕ) → k < i → P k → ⊥)
FirstWith P n None = (k : ℕ) → k < n → P k → ⊥
