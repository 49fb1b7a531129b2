-- Images read from bytes, and the steps of it. k is the number of keys, m₀ and m₁ are the mark.
use Rattle.std.specs.Prelude.{◌≡◌, ℕ, ◌+◌, ◌*◌, ◌≤◌, List, map, length, take, Some, None, Option, ◌≢◌, slice_index}
use Rattle.boxes.specs.GridBoxes.{box_of}
use Rattle.boxes.specs.Spaces.{widths_of, order_of}
use Rattle.boxes.specs.declared.grid_box.GridBox.{GridBox}
use Rattle.boxes.specs.declared.space.Space.{Space}
use Rattle.images.specs.Bytes.{joined}
use Rattle.images.specs.Directory.{Image, inner, intervals, layout, DirectoryPage, RootBytes}
use Rattle.images.specs.Memory.{image_of}
use Rattle.images.specs.Parts.{AllRising}
use Rattle.images.specs.declared.held_image.HeldImage.{HeldImage}
use Rattle.image_bytes.specs.Fields.{Zeros, Stands, count_bytes}

-- the bytes are no lawful directory image of the box, in a store of n pages; or they are this one
abbrev pub DirectoryRead : {E C : ℕ} → GridBox → ℕ → List ℕ → Option (HeldImage E C) → Type 0
DirectoryRead g n bytes None = (img : Image) → DirectoryPage (widths_of g.space.now) (order_of g.space.now) n (box_of g) img bytes → ⊥
DirectoryRead g n bytes (Some d) = DirectoryPage (widths_of g.space.now) (order_of g.space.now) n (box_of g) (image_of d) bytes

-- the bytes are no lawful root image; or they are this one
abbrev pub RootRead : {E C : ℕ} → Space → ℕ → List ℕ → Option (HeldImage E C) → Type 0
RootRead s n bytes None = (img : Image) → RootBytes (widths_of s) (order_of s) n img bytes → ⊥
RootRead s n bytes (Some d) = RootBytes (widths_of s) (order_of s) n (image_of d) bytes

-- The rules of an image that ask for no box.
pub record Sound (k most_inner most_cells : ℕ) (img : Image) : Type 0 where
  -- there are lower ends for each key
  pub scales : length img.ends ≡ k
  -- both limits are kept
  pub few_inner : inner img.ends ≤ most_inner
  pub few_cells : intervals img.ends ≤ most_cells
  -- each cell names something
  pub all_cells : length img.cells ≡ intervals img.ends
  -- the ends of each key rise
  pub rising : AllRising img.ends

-- no sound image is laid out so; or this one is
abbrev pub ImageRead : {E C : ℕ} → ℕ → ℕ → ℕ → ℕ → List ℕ → Option (HeldImage E C) → Type 0
ImageRead {E} {C} m₀ m₁ k level bytes None = (img : Image) → Sound k E C img → bytes ≢ layout (length bytes) m₀ m₁ level img
ImageRead m₀ m₁ k level bytes (Some d) = bytes ≡ layout (length bytes) m₀ m₁ level (image_of d)

-- the first 16 bytes, but for the counts of the keys that exist
pub record Heading (m₀ m₁ k level : ℕ) (bytes : List ℕ) : Type 0 where
  pub mark_first : slice_index bytes 0 ≡ m₀
  pub mark_second : slice_index bytes 1 ≡ m₁
  pub keys : slice_index bytes 2 ≡ k
  pub named_level : slice_index bytes 3 ≡ level
  -- the counts of the keys that do not exist, and the four bytes behind them
  pub zeros : Zeros bytes (4 + 2 * k) 16

-- The bytes say how many lower ends each of the k keys has.
pub record Counted (k : ℕ) (bytes cs : List ℕ) : Type 0 where
  pub four_keys : length cs ≡ 4
  pub stand : Stands bytes 4 (joined (map count_bytes (take k cs)))

-- the bytes say so; or some key has no interval
abbrev pub CountsRead : ℕ → List ℕ → Option (List ℕ) → Type 0
CountsRead k bytes None = (cs : List ℕ) → length cs ≡ k → Stands bytes 4 (joined (map count_bytes cs)) → ⊥
CountsRead k bytes (Some cs) = Counted k bytes cs
