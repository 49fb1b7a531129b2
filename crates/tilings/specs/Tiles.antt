-- Tiles in memory: the pieces of a space that they are, and their lower ends in numbers. In all of it s is the space.
use Rattle.std.specs.Prelude.{◌≡◌, ℕ, ◌≤◌, List, map, take, slice_index}
use Rattle.boxes.specs.Cuts.{Path, In}
use Rattle.boxes.specs.GridBoxes.{box_of}
use Rattle.boxes.specs.Placed.{Placed}
use Rattle.boxes.specs.Space.{box_at}
use Rattle.boxes.specs.Spaces.{widths_of, order_of}
use Rattle.boxes.specs.declared.grid_box.GridBox.{GridBox}
use Rattle.boxes.specs.declared.space.Space.{Space}
use Rattle.images.specs.Tilings.{Piece, listed, over}
use Rattle.tilings.specs.declared.tile.Tile.{Tile}

-- the lower ends of a tile
abbrev pub tile_lows : Space → Tile → List ℕ
tile_lows s t = take s.keys t.low

-- its box: that of its level around them
abbrev pub tile_box : Space → Tile → Path
tile_box s t = box_at (widths_of s) (order_of s) t.level (tile_lows s t)

-- a box of its level begins there
abbrev pub OnGrid : Space → Tile → Type 0
OnGrid s t = (t.level ≤ s.depth) × Placed (widths_of s) (order_of s) t.level (tile_lows s t)

-- so it is of each tile
abbrev pub AllOn : Space → List Tile → Type 0
AllOn s ts = (t : Tile) → In t ts → OnGrid s t

-- the box with its page
abbrev pub piece_of : Space → Tile → Piece
piece_of s t = record { box = tile_box s t; page = t.page }

abbrev pub pieces_of : Space → List Tile → List Piece
pieces_of s ts = map (piece_of s) ts

-- t is the box g with this page
abbrev pub TileMade : GridBox → ℕ → Tile → Type 0
TileMade g page t = OnGrid g.space.now t × (piece_of g.space.now t ≡ record { box = box_of g; page = page })

-- the tiles' lower ends in key i
abbrev pub lows_in : ℕ → List Tile → List ℕ
lows_in i ts = map (λ t. slice_index t.low i) ts

-- the different ones above the box's own, in each key
abbrev pub scales_in_numbers : GridBox → List Tile → List (List ℕ)
scales_in_numbers g ts = listed g.space.now.keys (λ i. over (slice_index g.low i) (lows_in i ts))
