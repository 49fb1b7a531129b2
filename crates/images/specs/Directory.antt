-- The directory image and the root image: what they say, their bytes, and the rules that they keep.
-- In all of it ws are the widths of the keys, ord is the halving order, b the box that an image is of, and n the number of pages of the store.
use Rattle.std.specs.Prelude.{◌≡◌, ℕ, zero, suc, ◌+◌, ◌*◌, ◌<◌, ◌≤◌, if◌then◌else◌, List, [], ◌∷◌, ◌++◌, map, length, replicate, nat_le, slice_index, slice_index_or}
use Rattle.boxes.specs.Cuts.{Path}
use Rattle.boxes.specs.Points.{Point, lows}
pub use Rattle.boxes.specs.Rising.{Rising}
use Rattle.boxes.specs.Space.{span, Lies, box_at}
use Rattle.images.specs.Bytes.{two, four, filled, joined}

-- what a cell names
pub record Tile : Type 0 where
  -- the page of a box
  pub page : ℕ
  -- and the level of that box
  pub level : ℕ

-- An image of a box. Lower ends of smaller boxes part each key into intervals, and so the box into cells.
pub record Image : Type 0 where
  -- for each key the lower ends, rising, without the box's own
  pub ends : List (List ℕ)
  -- what each cell names: the intervals of the last key in turn, within those of the key before it, so that key 0 is the slowest
  pub cells : List Tile

-- an image in k keys with one cell, which names t for the whole box
abbrev pub one_cell : ℕ → Tile → Image
one_cell k t = record { ends = replicate k []; cells = t ∷ [] }

-- two bytes of page and one of level
abbrev pub tile_bytes : Tile → List ℕ
tile_bytes t = two t.page ++ (t.level ∷ [])

-- the number of intervals in each of n keys, in two bytes; 0 for a key that does not exist
abbrev pub counts : ℕ → List (List ℕ) → List ℕ
counts zero es = []
counts (suc n) [] = 0 ∷ 0 ∷ counts n []
counts (suc n) (e ∷ es) = two (suc (length e)) ++ counts n es

-- the bytes of an image: a mark of two bytes, the number of keys, the level of the box, four counts, four zeros, the lower ends of each key in turn, the cells, and zeros up to the size
abbrev pub layout : ℕ → ℕ → ℕ → ℕ → Image → List ℕ
layout size m₀ m₁ level img =
    filled size ((m₀ ∷ m₁ ∷ length img.ends ∷ level ∷ []) ++ (counts 4 img.ends ++ ((0 ∷ 0 ∷ 0 ∷ 0 ∷ [])
    ++ (joined (map (λ es. joined (map four es)) img.ends) ++ joined (map tile_bytes img.cells)))))

-- a directory image fills one page
abbrev pub directory_layout : ℕ → Image → List ℕ
directory_layout = layout 512 0x44 0x49

-- the root image is of the whole space, and fills pages 0 to 7
abbrev pub root_layout : Image → List ℕ
root_layout = layout 4096 0x52 0x54 0

-- how many of the ends are at or below x: where they rise, the number of x's interval
abbrev pub position : ℕ → List ℕ → ℕ
position x [] = 0
position x (e ∷ es) = if nat_le e x then suc (position x es) else position x es

-- the number of the cell of the point ps, where n counts the intervals of the keys before
abbrev pub place_from : ℕ → List (List ℕ) → List ℕ → ℕ
place_from n [] ps = n
place_from n (e ∷ es) [] = n
place_from n (e ∷ es) (p ∷ ps) = place_from (n * suc (length e) + position p e) es ps

-- the number of a point's cell
abbrev pub cell_of : Image → List ℕ → ℕ
cell_of img p = place_from 0 img.ends p

-- what cell m names
abbrev pub named_in : Image → ℕ → Tile
named_in img m = slice_index_or img.cells m (record { page = 0; level = 0 })

-- what the image names at a point
abbrev pub tile_at : Image → List ℕ → Tile
tile_at img p = named_in img (cell_of img p)

-- how many inner boundaries there are
abbrev pub inner : List (List ℕ) → ℕ
inner [] = 0
inner (e ∷ es) = length e + inner es

-- how many cells there are
abbrev pub intervals : List (List ℕ) → ℕ
intervals [] = 1
intervals (e ∷ es) = suc (length e) * intervals es

-- The rules of an image of b, with limits for its inner boundaries and its cells.
pub record Lawful (ws ord : List ℕ) (b : Path) (n most_inner most_cells : ℕ) (img : Image) : Type 0 where
  -- there are lower ends for each key
  pub scales : length img.ends ≡ length ws
  -- both limits are kept
  pub few_inner : inner img.ends ≤ most_inner
  pub few_cells : intervals img.ends ≤ most_cells
  -- each cell names something
  pub all_cells : length img.cells ≡ intervals img.ends
  -- the ends of a key rise
  pub rising : (i : ℕ) → i < length ws → Rising (slice_index_or img.ends i [])
  -- they lie inside the box, above its own lower end
  pub inside : (i j : ℕ) → i < length ws → j < length (slice_index_or img.ends i [])
      → (slice_index (lows ws ord b) i < slice_index (slice_index_or img.ends i []) j) × (slice_index (slice_index_or img.ends i []) j < slice_index (lows ws ord b) i + span ws ord (length b) i)
  -- each is the lower end of some cell's box
  pub used : (i j : ℕ) → i < length ws → j < length (slice_index_or img.ends i [])
      → (p : List ℕ) × Point ws p × Lies ws ord b p × (slice_index (lows ws ord (box_at ws ord (tile_at img p).level p)) i ≡ slice_index (slice_index_or img.ends i []) j)
  -- each cell names a page behind the root image and in the store
  pub pages : (p : List ℕ) → Point ws p → Lies ws ord b p → (8 ≤ (tile_at img p).page) × ((tile_at img p).page < n)
  -- the box of the cell's level around it lies inside b
  pub nested : (p : List ℕ) → Point ws p → Lies ws ord b p → (length b ≤ (tile_at img p).level) × ((tile_at img p).level ≤ length ord)
  -- it covers the cell
  pub covers : (p q : List ℕ) → Point ws p → Lies ws ord b p → Point ws q → Lies ws ord b q → cell_of img p ≡ cell_of img q → Lies ws ord (box_at ws ord (tile_at img p).level p) q
  -- all cells in it are alike
  pub alike : (p q : List ℕ) → Point ws p → Lies ws ord b p → Point ws q → Lies ws ord (box_at ws ord (tile_at img p).level p) q → tile_at img q ≡ tile_at img p

-- the bytes are a lawful directory image of box b
pub record DirectoryPage (ws ord : List ℕ) (n : ℕ) (b : Path) (img : Image) (bytes : List ℕ) : Type 0 where
  -- they are laid out so, with the level of the box
  pub laid_out : bytes ≡ directory_layout (length b) img
  -- with at most 60 inner boundaries and 80 cells
  pub lawful : Lawful ws ord b n 60 80 img

-- the bytes are a lawful root image
pub record RootBytes (ws ord : List ℕ) (n : ℕ) (img : Image) (bytes : List ℕ) : Type 0 where
  -- they are laid out so
  pub laid_out : bytes ≡ root_layout img
  -- with at most 250 inner boundaries and 1,024 cells
  pub lawful : Lawful ws ord [] n 250 1024 img
