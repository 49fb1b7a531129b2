-- The cells that the image uses are those that its array begins with.
use Rattle.std.proofs.Common.{◌≡◌, ◌<◌, length, take, sym, subst, arith, rules, tests}
use Rattle.std.proofs.lemmas.Iterator.{YieldsList-from_slice}
use Rattle.std.proofs.lemmas.List.{get_or-take, length-take-le}
use Rattle.images.specs.Checking.{MayName}
use Rattle.images.specs.Memory.{tile}
use Rattle.images.specs.declared.held_image.Named.{Named}
use Rattle.images.proofs.Every.{all_of}
use Rattle.images.proofs.held_image.HeldImage.has_lawful_cells.Goals as goal

pub returns : goal.returns
returns g c =
    let d = c.args.self.now in
    let none : Named = record { page = 0; level = 0 } in
    let P : Named → Type 0 = λ t. MayName c.args.inner.now c.args.pages (tile t) in
    let n = c.cells_from.result in
    let long : length (take n d.cells) ≡ n = length-take-le n d.cells (omega (arith, d.many, c.cells_from.ensures.most)) in
    let each = all_of _ _ c.all.result P c.all.ensures.ran (λ x b q k. search (rules, tests)) (take n d.cells) (YieldsList-from_slice (take n d.cells) cc) none in (
      (λ e m l. let k : m < n = omega (arith, c.cells_from.ensures.product) in subst P (get_or-take n d.cells m none k) (each.0 e m (omega (arith, long)))),
      (λ w. each.1 (λ m l. let k : m < n = omega (arith, long) in subst P (sym (get_or-take n d.cells m none k)) (w m (omega (arith, c.cells_from.ensures.product))))),
    )
