use Rattle.std.proofs.Common.{refl, inl, inr, arith}
use Rattle.boxes.proofs.OfBoxes.{fits_at, rest_at, low_of_half, half_placed, half_is}
use Rattle.boxes.proofs.grid_box.GridBox.half_in.Goals as goal
use Rattle.boxes.proofs.grid_box.GridBox.half_in.Goals.{then-upper, else-upper}

pub overflow_add-low : goal.overflow_add-low
overflow_add-low c = omega (arith, fits_at c.args.self.now c.requires.0 c.args.key c.requires.1)

pub invariant_of-result : goal.invariant_of-result
invariant_of-result c =
    let g = c.args.self.now in
    let k = c.requires.0 in
    let key = c.args.key in
    let e = c.requires.1 in
    let low = low_of_half g k key e c.args.upper c.if-upper.low
    (elim c.if-upper.branch [ then-upper w ↦ inl (w.if-upper.true, w.low-is) | else-upper w ↦ inr (w.if-upper.false, w.low-is) ]) in
    record { deep = omega (arith, k); rest = rest_at g k key e; placed = half_placed g k c.args.upper c.if-upper.low low }

pub returns : goal.returns
returns c =
    let g = c.args.self.now in
    let k = c.requires.0 in
    let low = low_of_half g k c.args.key c.requires.1 c.args.upper c.if-upper.low
    (elim c.if-upper.branch [ then-upper w ↦ inl (w.if-upper.true, w.low-is) | else-upper w ↦ inr (w.if-upper.false, w.low-is) ]) in
    (refl, half_is g k c.args.upper c.if-upper.low low)
