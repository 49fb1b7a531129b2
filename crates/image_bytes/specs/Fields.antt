-- Fields among bytes.
use Rattle.std.specs.Prelude.{◌≡◌, ℕ, suc, ◌+◌, ◌-◌, ◌*◌, ◌<◌, ◌≤◌, List, [], ◌∷◌, ◌++◌, map, length, take, drop, replicate, slice_index}
use Rattle.images.specs.Bytes.{two, joined}
use Rattle.images.specs.Directory.{tile_bytes}
use Rattle.images.specs.Memory.{tile}
use Rattle.images.specs.declared.held_image.Named.{Named}

-- all bytes of a stretch are zero
abbrev pub Zeros : List ℕ → ℕ → ℕ → Type 0
Zeros bytes from to = (i : ℕ) → from ≤ i → i < to → slice_index bytes i ≡ 0

-- the field stands among the bytes, from a place on
abbrev pub Stands : List ℕ → ℕ → List ℕ → Type 0
Stands bytes at field = take (length field) (drop at bytes) ≡ field

-- The field was put there: the bytes before it stay as they were, and those behind it are no matter.
pub record Put (before : List ℕ) (at : ℕ) (field after : List ℕ) : Type 0 where
  pub long : length after ≡ length before
  pub front : take (at + length field) after ≡ take at before ++ field

-- how many intervals c lower ends make, in two bytes
abbrev pub count_bytes : ℕ → List ℕ
count_bytes c = two (suc c)

-- the first 16 bytes of an image whose keys have so many lower ends each
abbrev pub heading_bytes : ℕ → ℕ → ℕ → List ℕ → List ℕ
heading_bytes m₀ m₁ level cs = (m₀ ∷ m₁ ∷ length cs ∷ level ∷ []) ++ (joined (map count_bytes cs) ++ replicate (16 - (4 + 2 * length cs)) 0)

-- what a cell names, in three bytes
abbrev pub named_bytes : Named → List ℕ
named_bytes n = tile_bytes (tile n)
