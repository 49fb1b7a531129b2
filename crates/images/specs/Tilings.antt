-- Tilings of a box, the image of a tiling, and the tiling of an image.
use Rattle.std.specs.Prelude.{◌≡◌, ℕ, zero, suc, ◌+◌, ◌<◌, ◌≤◌, true, if◌then◌else◌, ◌⊎◌, List, [], ◌∷◌, map, length, nat_lt, slice_index, slice_index_or}
use Rattle.boxes.specs.Cuts.{Path, In, around}
use Rattle.boxes.specs.Points.{Point, path, lows}
use Rattle.boxes.specs.Rising.{insert}
use Rattle.boxes.specs.Space.{span, Lies, box_at}
use Rattle.images.specs.Directory.{Tile, Image, Rising, tile_at, intervals}
use Rattle.images.specs.Cells.{AllUp, corner}

-- a box and its page
pub record Piece : Type 0 where
  pub box : Path
  pub page : ℕ

-- Boxes with their pages that tile b.
pub record Tiling (ws ord : List ℕ) (b : Path) (ts : List Piece) : Type 0 where
  -- each lies in b
  pub within : (t : Piece) → In t ts → around b t.box ≡ true
  -- none is past the last level
  pub levels : (t : Piece) → In t ts → length t.box ≤ length ord
  -- each point of b lies in exactly one
  pub one : (p : List ℕ) → Point ws p → Lies ws ord b p → (t : Piece) × In t ts × Lies ws ord t.box p × ((u : Piece) → In u ts → Lies ws ord u.box p → u ≡ t)

-- what a cell names of a piece
abbrev pub tile_of : Piece → Tile
tile_of t = record { page = t.page; level = length t.box }

-- The image shows these pieces of b.
pub record Depicts (ws ord : List ℕ) (b : Path) (ts : List Piece) (img : Image) : Type 0 where
  -- there are ends for each key, and they rise
  pub scales : length img.ends ≡ length ws
  pub rising : (i : ℕ) → i < length ws → Rising (slice_index_or img.ends i [])
  -- each end is a piece's lower end, above b's own
  pub sound : (i x : ℕ) → i < length ws → In x (slice_index_or img.ends i []) → (slice_index (lows ws ord b) i < x) × ((t : Piece) × In t ts × (x ≡ slice_index (lows ws ord t.box) i))
  -- each piece begins in a key where b does, or at an end
  pub complete : (i : ℕ) (t : Piece) → i < length ws → In t ts → (slice_index (lows ws ord t.box) i ≡ slice_index (lows ws ord b) i) ⊎ In (slice_index (lows ws ord t.box) i) (slice_index_or img.ends i [])
  -- each cell names something
  pub all_cells : length img.cells ≡ intervals img.ends
  -- at each point it is the piece there
  pub named : (p : List ℕ) (t : Piece) → Point ws p → Lies ws ord b p → In t ts → Lies ws ord t.box p → tile_at img p ≡ tile_of t

-- what the first of the pieces on the way to a point gives a cell to name
abbrev pub found : Path → List Piece → Tile
found w [] = record { page = 0; level = 0 }
found w (t ∷ ts) = if around t.box w then tile_of t else found w ts

-- f 0, f 1, .. f (n - 1)
abbrev pub listed : {A : Type 0} → ℕ → (ℕ → A) → List A
listed zero f = []
listed (suc n) f = f 0 ∷ listed n (λ i. f (suc i))

-- the different numbers of the list that are above l, rising
abbrev pub over : ℕ → List ℕ → List ℕ
over l [] = []
over l (x ∷ xs) = if nat_lt l x then insert x (over l xs) else over l xs

-- the pieces' lower ends in key i
abbrev pub lower_ends : List ℕ → List ℕ → ℕ → List Piece → List ℕ
lower_ends ws ord i ts = map (λ t. slice_index (lows ws ord t.box) i) ts

-- the different ones above b's own, in each key
abbrev pub scales_of : List ℕ → List ℕ → Path → List Piece → List (List ℕ)
scales_of ws ord b ts = listed (length ws) (λ i. over (slice_index (lows ws ord b) i) (lower_ends ws ord i ts))

-- the image of a tiling of b
abbrev pub built : List ℕ → List ℕ → Path → List Piece → Image
built ws ord b ts =
    let es = scales_of ws ord b ts in
    record { ends = es; cells = listed (intervals es) (λ n. found (path ws ord (corner (lows ws ord b) es n)) ts) }

-- the ends part b into cells
pub record Scaled (ws ord : List ℕ) (b : Path) (es : List (List ℕ)) : Type 0 where
  -- there are some for each key
  pub long : length es ≡ length ws
  -- they rise from above b's own lower ends
  pub up : AllUp (lows ws ord b) es
  -- and lie in b
  pub within : (i : ℕ) → i < length ws → (x : ℕ) → In x (slice_index_or es i []) → x < slice_index (lows ws ord b) i + span ws ord (length b) i

-- the box around a point, of the level that the image names there, with the page
abbrev pub piece_at : List ℕ → List ℕ → Image → List ℕ → Piece
piece_at ws ord img p = record { box = box_at ws ord (tile_at img p).level p; page = (tile_at img p).page }

-- those of all cells, taken at their corners
abbrev pub pieces : List ℕ → List ℕ → Path → Image → List Piece
pieces ws ord b img = listed (intervals img.ends) (λ n. piece_at ws ord img (corner (lows ws ord b) img.ends n))
