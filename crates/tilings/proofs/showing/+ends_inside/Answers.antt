-- The box alone, or its halves.
use Rattle.std.proofs.Common.{true, false, Option, sym, ap, subst, arith}
use Rattle.boxes.specs.declared.rising_ends.RisingEnds.{RisingEnds}
use Rattle.tilings.specs.Ends.{EndsShown}
use Rattle.boxes.specs.declared.space.Space.{Space}
use Rattle.boxes.proofs.Halvings.{half_falls}
use Rattle.tilings.proofs.Shows.{not_whole, no_point, one_box, no_half, half_none, both_halves}
use Rattle.tilings.proofs.showing.+ends_inside.Goals as goal

pub returns-in_err-named : goal.returns-in_err-named
returns-in_err-named t c =
    subst (λ (o : Option RisingEnds). EndsShown c.args.image.now c.args.inner.now c.args.key o) (sym c.from_residual.ensures)
    (no_point c.args.image.now c.args.inner.now c.args.key c.in_err-named.ensures)

pub returns-then-is_whole : goal.returns-then-is_whole
returns-then-is_whole t c =
    one_box c.args.image.now c.args.inner.now c.args.key c.in_ok-named.named c.in_ok-named.ensures.1 c.requires (c.is_whole.ensures.0 c.if-is_whole.true) c.one.result c.one.ensures

pub returns-in_err-lower : goal.returns-in_err-lower
returns-in_err-lower t c =
    subst (λ (o : Option RisingEnds). EndsShown c.args.image.now c.args.inner.now c.args.key o) (sym c.from_residual-in_err-lower.ensures)
    (no_half c.args.image.now c.args.inner.now c.args.key c.in_ok-named.named c.in_ok-named.ensures.1 (not_whole c.is_whole.result c.in_ok-named.named.level c.args.inner.now.level c.is_whole.ensures.1 c.if-is_whole.false) c.in_err-lower.ensures)

pub ends_inside-requires : goal.ends_inside-requires
ends_inside-requires t c =
    let h = c.in_ok-lower.ensures in
    (omega (arith, c.decreases, half_falls c.args.inner.now c.in_ok-lower.lower false h.1 h.0), omega (arith, c.requires, ap (λ (u : Space). u.keys) h.1.0))

pub returns-in_err-below : goal.returns-in_err-below
returns-in_err-below t c =
    subst (λ (o : Option RisingEnds). EndsShown c.args.image.now c.args.inner.now c.args.key o) (sym c.from_residual-in_err-below.ensures)
    (half_none c.args.image.now c.args.inner.now c.args.key c.in_ok-named.named c.in_ok-named.ensures.1 (not_whole c.is_whole.result c.in_ok-named.named.level c.args.inner.now.level c.is_whole.ensures.1 c.if-is_whole.false)
    false c.in_ok-lower.lower c.in_ok-lower.ensures.1 c.in_err-below.ensures)

pub ends_inside-requires-2 : goal.ends_inside-requires-2
ends_inside-requires-2 t c =
    let h = c.in_ok-lower.ensures in
    (omega (arith, c.decreases, half_falls c.args.inner.now c.in_ok-lower.upper true h.2 h.0), omega (arith, c.requires, ap (λ (u : Space). u.keys) h.2.0))

pub returns-in_err-above : goal.returns-in_err-above
returns-in_err-above t c =
    subst (λ (o : Option RisingEnds). EndsShown c.args.image.now c.args.inner.now c.args.key o) (sym c.from_residual-in_err-above.ensures)
    (half_none c.args.image.now c.args.inner.now c.args.key c.in_ok-named.named c.in_ok-named.ensures.1 (not_whole c.is_whole.result c.in_ok-named.named.level c.args.inner.now.level c.is_whole.ensures.1 c.if-is_whole.false)
    true c.in_ok-lower.upper c.in_ok-lower.ensures.2 c.in_err-above.ensures)

pub returns : goal.returns
returns t c =
    both_halves c.args.image.now c.args.inner.now c.args.key c.in_ok-named.named c.in_ok-named.ensures.1 (not_whole c.is_whole.result c.in_ok-named.named.level c.args.inner.now.level c.is_whole.ensures.1 c.if-is_whole.false)
    c.in_ok-lower.lower c.in_ok-lower.upper c.in_ok-below.below c.in_ok-above.above c.in_ok-lower.ensures.1 c.in_ok-lower.ensures.2
    c.in_ok-below.ensures c.in_ok-above.ensures c.joined.result c.joined.ensures
