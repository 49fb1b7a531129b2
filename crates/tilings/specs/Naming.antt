-- What the steps of building an image leave in its array of cells. In all of it d has the scales, and g is the box.
use Rattle.std.specs.Prelude.{◌≡◌, ℕ, ◌<◌, if◌then◌else◌, List, take, slice_index_or}
use Rattle.boxes.specs.Cuts.{around}
use Rattle.boxes.specs.GridBoxes.{box_of}
use Rattle.boxes.specs.Points.{Point, path}
use Rattle.boxes.specs.Space.{Lies}
use Rattle.boxes.specs.Spaces.{widths_of, order_of}
use Rattle.boxes.specs.declared.grid_box.GridBox.{GridBox}
use Rattle.images.specs.declared.held_image.HeldImage.{HeldImage}
use Rattle.images.specs.declared.held_image.Named.{Named}
use Rattle.images.specs.Cells.{corner}
use Rattle.images.specs.Directory.{intervals}
use Rattle.images.specs.Memory.{scales_in, tile}
use Rattle.images.specs.Tilings.{tile_of, found}
use Rattle.tilings.specs.declared.tile.Tile.{Tile}
use Rattle.tilings.specs.Tiles.{OnGrid, AllOn, tile_box, piece_of, pieces_of}

-- what a cell names
abbrev pub cell : List Named → ℕ → Named
cell cs m = slice_index_or cs m (record { page = 0; level = 0 })

-- ps is a point of the space of g, and lies in g
abbrev pub Within : GridBox → List ℕ → Type 0
Within g ps = Point (widths_of g.space.now) ps × Lies (widths_of g.space.now) (order_of g.space.now) (box_of g) ps

-- the lowest corner of cell m, in a box that begins at low
abbrev pub corner_from : {E C : ℕ} → HeldImage E C → List ℕ → ℕ → List ℕ
corner_from d low m = corner (take d.keys low) (scales_in d) m

-- the cells whose corners lie in g name n, the others what they did
abbrev pub Painted : {E C : ℕ} → HeldImage E C → List ℕ → GridBox → Named → List Named → List Named → Type 0
Painted d low g n old new = (m : ℕ) → m < intervals (scales_in d)
    → (Within g (corner_from d low m) → cell new m ≡ n) × ((Within g (corner_from d low m) → ⊥) → cell new m ≡ cell old m)

-- the corners of the cells are points of the space
abbrev pub Cornered : {E C : ℕ} → HeldImage E C → GridBox → Type 0
Cornered d g = (d.keys ≡ g.space.now.keys) × ((m : ℕ) → m < intervals (scales_in d) → Point (widths_of g.space.now) (corner_from d g.low m))

-- then the cells whose corners lie in the tile name it, the others what they did
abbrev pub TilePainted : {E C : ℕ} → HeldImage E C → GridBox → Tile → List Named → List Named → Type 0
TilePainted d g t old new = Cornered d g → OnGrid g.space.now t → (m : ℕ) → m < intervals (scales_in d)
    → tile (cell new m)
    ≡ (if around (tile_box g.space.now t) (path (widths_of g.space.now) (order_of g.space.now) (corner_from d g.low m)) then tile_of (piece_of g.space.now t) else tile (cell old m))

-- each cell that named nothing names the first of the tiles around its corner
abbrev pub CellsNamed : {E C : ℕ} → HeldImage E C → GridBox → List Tile → List Named → List Named → Type 0
CellsNamed d g ts old new = Cornered d g → AllOn g.space.now ts → ((m : ℕ) → cell old m ≡ record { page = 0; level = 0 }) → (m : ℕ) → m < intervals (scales_in d)
    → tile (cell new m) ≡ found (path (widths_of g.space.now) (order_of g.space.now) (corner_from d g.low m)) (pieces_of g.space.now ts)
