-- The tile's box is the one around its lower ends.
use Rattle.tilings.proofs.Painting.{tile_point, painted_tile}
use Rattle.tilings.proofs.naming.paint_tile.Goals as goal

pub returns-in_default : goal.returns-in_default
returns-in_default g c =
    let s = c.args.inner.now.space.now in
    record { long = c.told-cells; named = λ corners o m l. absurd (c.in_default.ensures (o.0, tile_point s c.args.tile o)) }

pub returns-in-Some : goal.returns-in-Some
returns-in-Some g c = record {
  long = c.paint.ensures.long;
  named = painted_tile c.args.image.now c.args.inner.now c.args.tile c.in-Some.outer c.named.result c.args.cells.now c.paint.new.cells c.in-Some.ensures.2
      c.named.ensures.page c.named.ensures.level c.paint.ensures.named;
}
