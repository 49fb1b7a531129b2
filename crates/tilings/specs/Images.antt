-- The image that a tiling in memory has. In all of it g is the box, and ts are its tiles.
use Rattle.std.specs.Prelude.{◌≡◌, ℕ, ◌<◌, ◌≤◌, List, Some, None, Option}
use Rattle.boxes.specs.Cuts.{In}
use Rattle.boxes.specs.GridBoxes.{box_of}
use Rattle.boxes.specs.Spaces.{widths_of, order_of}
use Rattle.boxes.specs.declared.grid_box.GridBox.{GridBox}
use Rattle.images.specs.declared.held_image.HeldImage.{HeldImage}
use Rattle.images.specs.Checking.{LawfulIn}
use Rattle.images.specs.Directory.{inner, intervals}
use Rattle.images.specs.Memory.{image_of}
use Rattle.images.specs.Tilings.{Tiling, Depicts, scales_of, built}
use Rattle.images.specs.declared.image_size.ImageSize.{ImageSize}
use Rattle.tilings.specs.declared.tile.Tile.{Tile}
use Rattle.tilings.specs.Filling.{Fits}
use Rattle.tilings.specs.Tiles.{AllOn, pieces_of}

-- the scales of the tiles: in each key the different lower ends above the box's own
abbrev pub scales : GridBox → List Tile → List (List ℕ)
scales g ts = scales_of (widths_of g.space.now) (order_of g.space.now) (box_of g) (pieces_of g.space.now ts)

-- where the tiles are boxes of its space: n has the numbers of inner boundaries and cells of their image; there is no answer exactly where there are more than 250 boundaries
abbrev pub Sized : GridBox → List Tile → Option ImageSize → Type 0
Sized g ts None = AllOn g.space.now ts → 250 < inner (scales g ts)
Sized g ts (Some n) = AllOn g.space.now ts → (n.boundaries ≡ inner (scales g ts)) × (n.cells ≡ intervals (scales g ts)) × (inner (scales g ts) ≤ 250)

-- where the tiles are boxes of its space: d is their image; there is none exactly where it does not fit
abbrev pub Built : {E C : ℕ} → GridBox → List Tile → Option (HeldImage E C) → Type 0
Built {E} {C} g ts None = AllOn g.space.now ts → Fits E C (scales g ts) → ⊥
Built {E} {C} g ts (Some d) = AllOn g.space.now ts
    → Fits E C (scales g ts) × (image_of d ≡ built (widths_of g.space.now) (order_of g.space.now) (box_of g) (pieces_of g.space.now ts))

-- the tiles have pages behind the root image, in a store of n pages
abbrev pub Paged : ℕ → List Tile → Type 0
Paged n ts = (t : Tile) → In t ts → (8 ≤ t.page) × (t.page < n)

-- where they also tile the box: the image is lawful, its ends are the tiles' lower ends, and at each point it names the tile there
abbrev pub Shown : {E C : ℕ} → GridBox → List Tile → Option (HeldImage E C) → Type 0
Shown g ts None = Unit {0}
Shown g ts (Some d) =
    let ws = widths_of g.space.now in
    let ord = order_of g.space.now in
    AllOn g.space.now ts → Tiling ws ord (box_of g) (pieces_of g.space.now ts)
    → Depicts ws ord (box_of g) (pieces_of g.space.now ts) (image_of d) × ((n : ℕ) → Paged n ts → LawfulIn g n d)
