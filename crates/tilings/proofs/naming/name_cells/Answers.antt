-- One tile after another, from the last to the first.
use Rattle.std.proofs.Common.{◌≡◌, length, subst}
use Rattle.tilings.specs.declared.tile.Tile.{Tile}
use Rattle.tilings.specs.Naming.{TilePainted}
use Rattle.tilings.proofs.Painting.{NamedSo, named_none, named_more, all_left, last_left}
use Rattle.tilings.proofs.naming.name_cells.Goals as goal

pub loop-tile-init : goal.loop-tile-init
loop-tile-init g c =
    let ts = c.args.tiles.now in
    let all = c.into_iter-tile-iterator.result.iter.rest.now in
    let whole : all ≡ ts = cc in
    let left = all_left all ts whole in
    (left.0, left.1, named_none c.args.image.now c.args.inner.now ts c.args.cells.now (length all) left.2, c.told-cells)

pub loop-tile-preserved : goal.loop-tile-preserved
loop-tile-preserved g c =
    let d = c.args.image.now in
    let b = c.args.inner.now in
    let ts = c.args.tiles.now in
    let old = c.args.cells.now in
    let inv = c.loop-tile.invariant in
    let rest = c.next.new.self.iter.rest.now in
    let t = c.in-Some.tile.now in
    let last = last_left c.loop-tile.tile-iterator.iter.rest.now rest ts t inv.0 inv.1 c.in-Some.ensures.steps in (
      last.0,
      last.1,
      named_more d b ts old (length rest) t c.loop-tile.cells c.paint_tile.new.cells last.2
          (subst (λ n. NamedSo d b ts old n c.loop-tile.cells) last.4 inv.2)
          (subst (λ (u : Tile). TilePainted d b u c.loop-tile.cells c.paint_tile.new.cells) last.3 c.paint_tile.ensures.named),
      c.paint_tile.ensures.long,
    )

pub returns : goal.returns
returns g c =
    let inv = c.loop-tile.invariant in
    record { long = inv.3; named = subst (λ n. NamedSo c.args.image.now c.args.inner.now c.args.tiles.now c.args.cells.now n c.loop-tile.cells) c.in-None.ensures.steps.0 inv.2 }
