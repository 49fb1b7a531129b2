-- The counts say how many inner boundaries and cells there are.
use Rattle.std.proofs.Common.{ℕ, ◌<◌, List, take, Option, sym, subst, arith}
use Rattle.images.specs.Directory.{inner}
use Rattle.images.specs.declared.image_size.ImageSize.{ImageSize}
use Rattle.tilings.specs.Images.{Sized}
use Rattle.tilings.proofs.Linking.{scales_same, sized_of}
use Rattle.tilings.proofs.sizing.scale_counts.Goals as goal

pub returns-in_err-scales : goal.returns-in_err-scales
returns-in_err-scales c =
    let b = c.args.inner.now in
    let ts = c.args.tiles.now in
    subst (λ (o : Option ImageSize). Sized b ts o) (sym c.from_residual.ensures)
    (λ on. subst (λ (us : List (List ℕ)). 250 < inner us) (scales_same b ts on) c.in_err-scales.ensures)

pub returns : goal.returns
returns c =
    let b = c.args.inner.now in
    let r = c.in_ok-scales.ensures in
    let cs = take b.space.now.keys c.in_ok-scales.scales.counts in
    sized_of b c.args.tiles.now cs c.in_ok-scales.scales.ends (omega (arith, r.0, r.2)) (omega (arith, r.1, b.space.now.few)) r.2 r.3 c.of.result c.of.ensures
