-- The image with the scales of the tiles, and the tiles in its cells.
use Rattle.std.proofs.Common.{ℕ, List, Option, sym, subst}
use Rattle.images.specs.declared.held_image.HeldImage.{HeldImage}
use Rattle.tilings.specs.Images.{Built}
use Rattle.tilings.specs.Filling.{Fits}
use Rattle.tilings.specs.Tiles.{AllOn}
use Rattle.tilings.proofs.Linking.{scales_same, cornered, built_of, shown_of}
use Rattle.tilings.proofs.building.build.Goals as goal

pub returns-in_err-image-clause-built : goal.returns-in_err-image-clause-built
returns-in_err-image-clause-built g c =
    let b = c.args.inner.now in
    let ts = c.args.tiles.now in
    subst (λ (o : Option (HeldImage g.row.ENDS g.row.CELLS)). Built b ts o) (sym c.from_residual.ensures)
    (λ on fits. c.in_err-image.ensures (subst (λ (us : List (List ℕ)). Fits g.row.ENDS g.row.CELLS us) (sym (scales_same b ts on)) fits))

pub returns : goal.returns
returns g c =
    let b = c.args.inner.now in
    let ts = c.args.tiles.now in
    let d = c.in_ok-image.image in
    let r = c.in_ok-image.ensures in
    let fits = λ (on : AllOn b.space.now ts). subst (λ (us : List (List ℕ)). Fits g.row.ENDS g.row.CELLS us) (scales_same b ts on) r.0 in
    let same = λ (on : AllOn b.space.now ts). built_of d b ts on r.1 r.2 c.name_cells.new.cells (c.name_cells.ensures.named (cornered d b ts on r.1 r.2) on r.4) in
    record { built = λ on. (fits on, same on); shown = λ on tiling. shown_of _ b ts (fits on) (same on) tiling }
