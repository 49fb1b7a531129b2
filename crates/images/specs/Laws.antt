-- The laws of images, in any halving order that names each key as often as its width.
use Rattle.std.specs.Prelude.{◌≡◌, ℕ, ◌<◌, ◌≤◌, List, [], length}
use Rattle.std.specs.List.{AllByRecursion}
use Rattle.boxes.specs.Cuts.{Path, In}
use Rattle.boxes.specs.Leaves.{Distinct}
use Rattle.boxes.specs.Points.{Names, Point, lows}
use Rattle.boxes.specs.Space.{Lies}
use Rattle.images.specs.Directory.{Image, one_cell, Lawful, DirectoryPage, RootBytes, tile_at, position, place_from, intervals, inner}
use Rattle.images.specs.Cells.{Up, AllUp, SamePlaces, corner}
use Rattle.images.specs.Tilings.{Piece, Tiling, Depicts, Scaled, tile_of, scales_of, built, piece_at, pieces}
use Rattle.images.specs.Checks.{Checked}
use Rattle.images.specs.Paged.{PageLaws}

-- positions among ends that rise from above l: they are the same exactly for numbers on the same side of each end
pub record PositionLaws (l : ℕ) (es : List ℕ) : Type 0 where
  pub sides : (x y : ℕ) → position x es ≡ position y es → (e : ℕ) → In e es → e ≤ x → e ≤ y
  pub same : (x y : ℕ) → ((e : ℕ) → In e es → (e ≤ x → e ≤ y) × (e ≤ y → e ≤ x)) → position x es ≡ position y es

-- cell numbers
pub record CellLaws (es : List (List ℕ)) : Type 0 where
  -- they are below the number of cells
  pub below : (ps : List ℕ) → length ps ≡ length es → place_from 0 es ps < intervals es
  -- they are the same exactly for points with the same position in each key
  pub apart : (ps qs : List ℕ) → length ps ≡ length es → length qs ≡ length es → place_from 0 es ps ≡ place_from 0 es qs → SamePlaces es ps qs
  pub same : (ps qs : List ℕ) → length ps ≡ length es → length qs ≡ length es → SamePlaces es ps qs → place_from 0 es ps ≡ place_from 0 es qs
  -- each is that of its corner
  pub corners : (ls : List ℕ) (n : ℕ) → length ls ≡ length es → AllUp ls es → n < intervals es → place_from 0 es (corner ls es n) ≡ n

-- these laws, and that the corner of a cell is a point of the box
abbrev pub CellsStand : Type 0
CellsStand = ((l : ℕ) (es : List ℕ) → Up l es → PositionLaws l es)
    × ((es : List (List ℕ)) → CellLaws es)
    × ((ws ord : List ℕ) → Names ws ord → (b : Path) (es : List (List ℕ)) → Scaled ws ord b es → (n : ℕ) → n < intervals es → Point ws (corner (lows ws ord b) es n) × Lies ws ord b (corner (lows ws ord b) es n))

-- the image built from a tiling is lawful where its pages and limits are, and names at each point the page and the level of the piece around it
abbrev pub BuiltStands : Type 0
BuiltStands = (ws ord : List ℕ) → Names ws ord → (b : Path) → length b ≤ length ord → (ts : List Piece) → Tiling ws ord b ts → (n most_inner most_cells : ℕ)
    → ((t : Piece) → In t ts → (8 ≤ t.page) × (t.page < n)) → inner (scales_of ws ord b ts) ≤ most_inner → intervals (scales_of ws ord b ts) ≤ most_cells
    → Lawful ws ord b n most_inner most_cells (built ws ord b ts)
    × ((p : List ℕ) → Point ws p → Lies ws ord b p → (t : Piece) → In t ts → Lies ws ord t.box p → tile_at (built ws ord b ts) p ≡ tile_of t)

-- the image built from a tiling shows it, and is the only one that does
abbrev pub DepictedStands : Type 0
DepictedStands = (ws ord : List ℕ) → Names ws ord → (b : Path) → length b ≤ length ord → (ts : List Piece) → Tiling ws ord b ts
    → Depicts ws ord b ts (built ws ord b ts) × ((img : Image) → Depicts ws ord b ts img → img ≡ built ws ord b ts)

-- a lawful image is of a tiling: the boxes around points, with their pages
abbrev pub PiecesStand : Type 0
PiecesStand = (ws ord : List ℕ) → Names ws ord → (b : Path) → length b ≤ length ord → (n most_inner most_cells : ℕ) (img : Image) → Lawful ws ord b n most_inner most_cells img
    → Tiling ws ord b (pieces ws ord b img)
    × ((p : List ℕ) → Point ws p → Lies ws ord b p → In (piece_at ws ord img p) (pieces ws ord b img))
    × (built ws ord b (pieces ws ord b img) ≡ img)

-- lawful images of a box that name the same at each of its points are the same
abbrev pub SameStands : Type 0
SameStands = (ws ord : List ℕ) → Names ws ord → (b : Path) → length b ≤ length ord → (n m x y u v : ℕ) (a c : Image) → Lawful ws ord b n x y a → Lawful ws ord b m u v c
    → ((p : List ℕ) → Point ws p → Lies ws ord b p → tile_at a p ≡ tile_at c p) → a ≡ c

-- the checks of cells and neighbours are the rules
abbrev pub ChecksStand : Type 0
ChecksStand = (ws ord : List ℕ) → Names ws ord → (b : Path) → length b ≤ length ord → (n most_inner most_cells : ℕ) (img : Image)
    → (Checked ws ord b n most_inner most_cells img → Lawful ws ord b n most_inner most_cells img) × (Lawful ws ord b n most_inner most_cells img → Checked ws ord b n most_inner most_cells img)

-- the boxes of different points have images, for a capacity of at least 1
abbrev pub PagesStand : Type 0
PagesStand = (ws ord : List ℕ) → Names ws ord → (c : ℕ) → 1 ≤ c → (hs : List (List ℕ)) → AllByRecursion (Point ws) hs → Distinct hs → (n : ℕ) (page : Path → ℕ) → PageLaws ws ord c hs n page

-- an image of one cell is a lawful image of the whole space, where its page and its limits allow it
abbrev pub OneCellStands : Type 0
OneCellStands = (ws ord : List ℕ) (n most_inner most_cells pg : ℕ) → 1 ≤ most_cells → 8 ≤ pg → pg < n
    → Lawful ws ord [] n most_inner most_cells (one_cell (length ws) (record { page = pg; level = 0 }))
    × ((p : List ℕ) → tile_at (one_cell (length ws) (record { page = pg; level = 0 })) p ≡ record { page = pg; level = 0 })

-- a root image says one thing: two lawful readings of the same bytes, in at most four keys, are equal
abbrev pub OneRoot : Type 0
OneRoot = (ws ord : List ℕ) (n n' : ℕ) (img img' : Image) (bytes : List ℕ) → length ws ≤ 4
    → RootBytes ws ord n img bytes → RootBytes ws ord n' img' bytes → img ≡ img'

-- a directory page says one thing: its image, and the level of its box
abbrev pub OneDirectory : Type 0
OneDirectory = (ws ord : List ℕ) (n n' : ℕ) (b b' : Path) (img img' : Image) (bytes : List ℕ) → length ws ≤ 4
    → DirectoryPage ws ord n b img bytes → DirectoryPage ws ord n' b' img' bytes → (img ≡ img') × (length b ≡ length b')

-- images fill their pages
abbrev pub ImagesFull : Type 0
ImagesFull = ((ws ord : List ℕ) (n : ℕ) (img : Image) (bytes : List ℕ) → RootBytes ws ord n img bytes → length bytes ≡ 4096)
    × ((ws ord : List ℕ) (n : ℕ) (b : Path) (img : Image) (bytes : List ℕ) → DirectoryPage ws ord n b img bytes → length bytes ≡ 512)
