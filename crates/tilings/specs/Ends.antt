-- The lower ends of an image's boxes inside a box c. In all of it ws are the widths of the keys, and ord is the halving order.
use Rattle.std.specs.Prelude.{◌≡◌, ℕ, ◌<◌, ◌≤◌, true, List, length, Some, None, Option, slice_index}
use Rattle.boxes.specs.Cuts.{Path, In, around}
use Rattle.boxes.specs.GridBoxes.{box_of}
use Rattle.boxes.specs.Points.{Point, lows}
use Rattle.boxes.specs.Space.{Lies, box_at}
use Rattle.boxes.specs.Spaces.{widths_of, order_of}
use Rattle.boxes.specs.declared.grid_box.GridBox.{GridBox}
use Rattle.images.specs.declared.held_image.HeldImage.{HeldImage}
use Rattle.images.specs.Directory.{Image, Lawful, tile_at}
use Rattle.images.specs.Memory.{image_of}
use Rattle.boxes.specs.declared.rising_ends.RisingEnds.{RisingEnds}
use Rattle.boxes.specs.RisingEnds.{ends_of}

-- The image shows c.
pub record ShownIn (ws ord : List ℕ) (img : Image) (b : Path) (n : ℕ) (c : Path) : Type 0 where
  -- it is a lawful directory image of a box b
  pub lawful : Lawful ws ord b n 60 80 img
  -- c lies in b
  pub within : around b c ≡ true
  -- and in no larger box of the image
  pub whole : (p : List ℕ) → Point ws p → Lies ws ord c p → length c ≤ (tile_at img p).level

-- x is the lower end in key i of the image's box around some point of c
abbrev pub LowerEnd : List ℕ → List ℕ → Image → Path → ℕ → ℕ → Type 0
LowerEnd ws ord img c i x = (p : List ℕ) × Point ws p × Lies ws ord c p × (x ≡ slice_index (lows ws ord (box_at ws ord (tile_at img p).level p)) i)

-- where the image shows c, the numbers are exactly these ends; then there is no answer exactly where there is no key i
abbrev pub EndsIn : List ℕ → List ℕ → Image → Path → ℕ → Option RisingEnds → Type 0
EndsIn ws ord img c i None = (b : Path) (n : ℕ) → ShownIn ws ord img b n c → length ws ≤ i
EndsIn ws ord img c i (Some e) = (i < length ws)
    × ((b : Path) (n : ℕ) → ShownIn ws ord img b n c → (x : ℕ) → (In x (ends_of e) → LowerEnd ws ord img c i x) × (LowerEnd ws ord img c i x → In x (ends_of e)))

-- the ends of the boxes of the image d inside the box g
abbrev pub EndsShown : {E C : ℕ} → HeldImage E C → GridBox → ℕ → Option RisingEnds → Type 0
EndsShown d g i r = EndsIn (widths_of g.space.now) (order_of g.space.now) (image_of d) (box_of g) i r
