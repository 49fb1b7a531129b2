-- The rules of a directory image in memory, of which each part of the check decides one. g is the box, and d the image.
use Rattle.std.specs.Prelude.{◌≡◌, ℕ, suc, ◌+◌, ◌%◌, ◌<◌, ◌≤◌, [], length, slice_index, slice_index_or}
use Rattle.boxes.specs.declared.grid_box.GridBox.{GridBox}
use Rattle.boxes.specs.GridBoxes.{box_of}
use Rattle.boxes.specs.Points.{lows}
use Rattle.boxes.specs.Space.{span}
use Rattle.boxes.specs.Spaces.{widths_of, order_of}
use Rattle.images.specs.declared.held_image.HeldImage.{HeldImage}
use Rattle.images.specs.Cells.{digit, stride}
use Rattle.images.specs.Checks.{block, cell_low, cell_high, cell_span}
use Rattle.images.specs.Directory.{Tile, Lawful, intervals, named_in}
use Rattle.images.specs.Memory.{scales_in, tile_in, image_of}

-- it is a lawful image of the box, in a store of n pages
abbrev pub LawfulIn : {E C : ℕ} → GridBox → ℕ → HeldImage E C → Type 0
LawfulIn {E} {C} g n d = Lawful (widths_of g.space.now) (order_of g.space.now) (box_of g) n E C (image_of d)

-- a cell of the box may name this: a page behind the root image and in a store of n pages, and a level from that of the box on
abbrev pub MayName : GridBox → ℕ → Tile → Type 0
MayName g n t = (8 ≤ t.page) × (t.page < n) × (g.level ≤ t.level) × (t.level ≤ g.space.now.depth)

-- cell m does
abbrev pub Allowed : {E C : ℕ} → GridBox → ℕ → HeldImage E C → ℕ → Type 0
Allowed g n d m = MayName g n (tile_in d m)

-- the ends of key i lie inside the box, above its own
abbrev pub Inside : {E C : ℕ} → GridBox → HeldImage E C → ℕ → Type 0
Inside g d i = (j : ℕ) → j < length (slice_index_or (scales_in d) i [])
    → (slice_index g.low i < slice_index (slice_index_or (scales_in d) i []) j)
    × (slice_index (slice_index_or (scales_in d) i []) j < slice_index (lows (widths_of g.space.now) (order_of g.space.now) (box_of g)) i + span (widths_of g.space.now) (order_of g.space.now) g.level i)

-- cell m begins in key i at end j, and so does its box
abbrev pub Begins : {E C : ℕ} → GridBox → HeldImage E C → ℕ → ℕ → ℕ → Type 0
Begins g d i j m = (digit (scales_in d) i m ≡ suc j) × (slice_index (slice_index_or (scales_in d) i []) j % span (widths_of g.space.now) (order_of g.space.now) (tile_in d m).level i ≡ 0)

-- some cell does
abbrev pub Used : {E C : ℕ} → GridBox → HeldImage E C → ℕ → ℕ → Type 0
Used g d i j = (m : ℕ) × (m < intervals (scales_in d)) × Begins g d i j m

-- the box of cell m covers it in key i, and it is like the next one up where the box of one reaches over the other
pub record Fits (g : GridBox) {E C : ℕ} (d : HeldImage E C) (i m : ℕ) : Type 0 where
  -- the cell's box ends no earlier than the cell
  pub covers : cell_high (widths_of g.space.now) (order_of g.space.now) (box_of g) (image_of d) m i
      ≤ block (cell_span (widths_of g.space.now) (order_of g.space.now) (image_of d) m i) (cell_low (widths_of g.space.now) (order_of g.space.now) (box_of g) (image_of d) m i)
      + cell_span (widths_of g.space.now) (order_of g.space.now) (image_of d) m i
  -- its box reaches over the next cell
  pub up : digit (scales_in d) i m < length (slice_index_or (scales_in d) i [])
      → cell_high (widths_of g.space.now) (order_of g.space.now) (box_of g) (image_of d) m i
      < block (cell_span (widths_of g.space.now) (order_of g.space.now) (image_of d) m i) (cell_low (widths_of g.space.now) (order_of g.space.now) (box_of g) (image_of d) m i)
      + cell_span (widths_of g.space.now) (order_of g.space.now) (image_of d) m i
      → named_in (image_of d) (m + stride (scales_in d) i) ≡ named_in (image_of d) m
  -- the next cell's box begins below that cell
  pub down : digit (scales_in d) i m < length (slice_index_or (scales_in d) i [])
      → 0 < cell_high (widths_of g.space.now) (order_of g.space.now) (box_of g) (image_of d) m i
      % cell_span (widths_of g.space.now) (order_of g.space.now) (image_of d) (m + stride (scales_in d) i) i
      → named_in (image_of d) (m + stride (scales_in d) i) ≡ named_in (image_of d) m

-- the image and the box have the same keys, and i is one
abbrev pub HasKey : {E C : ℕ} → GridBox → HeldImage E C → ℕ → Type 0
HasKey g d i = (d.keys ≡ g.space.now.keys) × (i < d.keys)

-- the rules in key i
pub record KeyLawful (g : GridBox) {E C : ℕ} (d : HeldImage E C) (i : ℕ) : Type 0 where
  pub inside : Inside g d i
  pub used : (j : ℕ) → j < length (slice_index_or (scales_in d) i []) → Used g d i j
  pub fits : (m : ℕ) → m < intervals (scales_in d) → Fits g d i m

-- the image and the box have the same keys, i is one, and it keeps the rules
pub record HasLawful (g : GridBox) {E C : ℕ} (d : HeldImage E C) (i : ℕ) : Type 0 where
  pub has : HasKey g d i
  pub lawful : KeyLawful g d i
