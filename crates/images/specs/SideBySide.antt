-- The lower ends of keys, side by side in memory.
use Rattle.std.specs.Prelude.{◌≡◌, ℕ, List, [], ◌∷◌, length, Some, None, Option}
use denote.Ref.{Bor}
use Rattle.images.specs.declared.key_ends.KeyEnds.{KeyEnds}
use Rattle.images.specs.Parts.{parted}

-- the ends of each key
abbrev pub by_key : KeyEnds → List (List ℕ)
by_key s = parted s.counts.now s.ends.now

-- the ends of the first key, and those of the others; nothing exactly where there is no key
abbrev pub Split : KeyEnds → Option (Bor (List ℕ) × KeyEnds) → Type 0
Split s None = s.counts.now ≡ []
Split s (Some (first, rest)) = (s.counts.now ≡ length first.now ∷ rest.counts.now) × (by_key s ≡ first.now ∷ by_key rest)
