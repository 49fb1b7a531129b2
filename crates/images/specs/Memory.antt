-- Which image a `HeldImage` holds.
use Rattle.std.specs.Prelude.{◌≡◌, ℕ, ◌≤◌, List, length, take, Some, None, Option, slice_index_or}
use Rattle.images.specs.declared.held_image.HeldImage.{HeldImage}
use Rattle.images.specs.declared.held_image.Named.{Named}
use Rattle.images.specs.Directory.{Tile, Image, one_cell, intervals, tile_at}
use Rattle.images.specs.Parts.{parted}
use Rattle.images.specs.Tilings.{listed}

-- the lower ends of each key
abbrev pub scales_in : {E C : ℕ} → HeldImage E C → List (List ℕ)
scales_in d = parted (take d.keys d.counts) d.ends

-- what a cell names
abbrev pub tile : Named → Tile
tile n = record { page = n.page; level = n.level }

-- what cell m names
abbrev pub tile_in : {E C : ℕ} → HeldImage E C → ℕ → Tile
tile_in d m = tile (slice_index_or d.cells m (record { page = 0; level = 0 }))

-- the image
abbrev pub image_of : {E C : ℕ} → HeldImage E C → Image
image_of d = record { ends = scales_in d; cells = listed (intervals (scales_in d)) (tile_in d) }

-- what the image names at a point; nothing exactly where the point has not as many keys as the image
abbrev pub NamedAt : {E C : ℕ} → HeldImage E C → List ℕ → Option Named → Type 0
NamedAt d ps None = length ps ≡ d.keys → ⊥
NamedAt d ps (Some n) = (length ps ≡ d.keys) × (tile n ≡ tile_at (image_of d) ps)

-- the image of one cell; none exactly for more than four keys, or an image larger than that of the root, or without a cell
abbrev pub OneCell : (E C k : ℕ) → Named → Option (HeldImage E C) → Type 0
OneCell E C k n None = (k ≤ 4) × (E ≤ 250) × (1 ≤ C) × (C ≤ 1024) → ⊥
OneCell E C k n (Some d) = (k ≤ 4) × (E ≤ 250) × (1 ≤ C) × (C ≤ 1024) × (image_of d ≡ one_cell k (tile n))
