-- The tiles that are done, the last ones, have painted the cells; the others are still to come.
use Rattle.std.proofs.Common.{◌≡◌, ◌≤◌, length, take}
use Rattle.tilings.proofs.Painting.{NamedSo}
use Rattle.tilings.proofs.naming.name_cells.Given as goal

abbrev pub invariant-loop-tile : goal.invariant-loop-tile
invariant-loop-tile g l = (length l.tile-iterator.iter.rest.now ≤ length l.tiles) × (l.tile-iterator.iter.rest.now ≡ take (length l.tile-iterator.iter.rest.now) l.tiles)
    × NamedSo l.image l.inner l.tiles l.initial.cells (length l.tile-iterator.iter.rest.now) l.cells × (length l.cells ≡ g.row.CELLS)
