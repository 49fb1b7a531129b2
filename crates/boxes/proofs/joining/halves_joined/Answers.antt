use Rattle.std.proofs.Common.{◌≡◌, length, sym, ap, ◌∙◌, rules}
use Rattle.std.specs.Option.{option_copied}
use Rattle.boxes.proofs.OfScales.{countable, unjoined, kept_or_not}
use Rattle.boxes.proofs.joining.halves_joined.Goals as goal

pub returns-in_err-scales : goal.returns-in_err-scales
returns-in_err-scales c =
    let el = sym c.as_ref.ensures.value ∙ ap option_copied c.in_ok-as_ref.was in
    let eh = sym c.as_ref-2.ensures.value ∙ ap option_copied c.in_ok-as_ref-2.was in
    rw c.from_residual-in_err-scales.ensures (unjoined c.args.keys _ _ c.in_ok-as_ref.field-0.now c.in_ok-as_ref-2.field-0.now el eh c.in_err-scales.ensures)

pub of-grid-requires : goal.of-grid-requires
of-grid-requires c =
    let four : length c.counts.result ≡ 4 = search rules in
    countable c.in_ok-scales.scales c.args.keys c.counts.result c.requires four c.counts.ensures

pub returns : goal.returns
returns c =
    let el = sym c.as_ref.ensures.value ∙ ap option_copied c.in_ok-as_ref.was in
    let eh = sym c.as_ref-2.ensures.value ∙ ap option_copied c.in_ok-as_ref-2.was in
    let four : length c.counts.result ≡ 4 = search rules in
    rw c.then_some.ensures (kept_or_not c.args.keys _ _ c.in_ok-as_ref.field-0.now c.in_ok-as_ref-2.field-0.now el eh c.in_ok-scales.scales c.counts.result four c.requires c.counts.ensures c.in_ok-scales.ensures
    c.of-grid.result.boundaries c.of-grid.result.cells c.keeps_limits.result c.of-grid.ensures.boundaries c.of-grid.ensures.cells c.keeps_limits.ensures)
