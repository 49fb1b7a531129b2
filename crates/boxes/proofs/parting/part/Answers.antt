use Rattle.std.proofs.Common.{◌+◌, ◌<◌, false, length, get_or, sym, ap, ◌∙◌, subst₂, arith}
use Rattle.std.proofs.lemmas.List.Sorted.{IsPermutation-trans}
use Rattle.boxes.specs.Parts.{side}
use Rattle.boxes.specs.Points.{path}
use Rattle.boxes.specs.Spaces.{widths_of, order_of}
use Rattle.boxes.proofs.Sides.{Standing, upper_more, lower_swapped, upper_swapped}
use Rattle.boxes.proofs.parting.part.Goals as goal
use Rattle.boxes.proofs.parting.part.Goals.{then-not-is_in_upper, else-not-is_in_upper}

pub loop-i-preserved : goal.loop-i-preserved
loop-i-preserved c =
    let p = c.index-points-i.result in
    let s = c.args.inner.now.space.now in
    let l = c.args.inner.now.level in
    let qs = c.loop-i.points in
    let i = c.loop-i.i in
    let inv = c.loop-i.invariant in
    let at : i < length qs = omega (arith, c.loop-i-test.true, c.loop-i.auto.points) in
    let told = ap (side s l) c.index-points-i.is ∙ sym (c.is_in_upper.ensures ∙ ap (λ us. get_or (path (widths_of s) (order_of s) us) l false) c.as_slice.ensures) in
    elim c.if-not-is_in_upper.branch [
      | then-not-is_in_upper w ↦
          let places = w.swap.ensures.by_index in
          let lower = lower_swapped s l qs c.loop-i.lower i p at c.index-points-i.is inv.1 inv.2 inv.3 w.swap.new.self places.0 places.1 places.2 (told ∙ w.if-not-is_in_upper.true) in
          let upper = upper_swapped s l qs c.loop-i.lower i p at c.index-points-i.is inv.1 inv.2 inv.3 w.swap.new.self places.0 places.1 places.2 in
          subst₂ (Standing s l c.args.points.now (i + 1)) (sym w.points-is) (sym w.lower-is) (IsPermutation-trans c.args.points.now qs w.swap.new.self inv.0 w.swap.ensures.permutation, omega arith, lower, upper)
      | else-not-is_in_upper w ↦
          let upper = upper_more s l qs c.loop-i.lower i p at c.index-points-i.is inv.1 inv.2 inv.3 (told ∙ w.if-not-is_in_upper.false) in
          subst₂ (Standing s l c.args.points.now (i + 1)) (sym w.points-is) (sym w.lower-is) (inv.0, omega arith, inv.2, upper)
    ]
