-- Four counts up to 250 have a sum and a product that fit.
use Rattle.std.proofs.Common.{sym, ◌∙◌, arith}
use Rattle.images.proofs.Counts.{sum_total, more_any, none_more, product_most}
use Rattle.images.proofs.image_size.ImageSize.of.Goals as goal
use Rattle.images.proofs.image_size.ImageSize.of.Goals.{then-counts-gt4-via-then-counts-gt4, then-counts-gt4-via-else-counts-gt4+then-has_many}

pub returns-then-counts-gt4 : goal.returns-then-counts-gt4
returns-then-counts-gt4 c = λ w. elim c.then-counts-gt4.branch [
  | then-counts-gt4-via-then-counts-gt4 v ↦ omega (arith, w.0, v.if-counts-gt4.true)
  | then-counts-gt4-via-else-counts-gt4+then-has_many v ↦ omega (arith, w.1, more_any 250 c.args.counts.now (sym v.has_many.ensures ∙ v.if-has_many.true))
]

pub total_of-boundaries-requires : goal.total_of-boundaries-requires
total_of-boundaries-requires c =
    omega (arith, sum_total c.args.counts.now, none_more 250 c.args.counts.now (sym c.has_many.ensures ∙ c.if-has_many.false), c.if-counts-gt4.false)

pub returns-then-boundaries-gt250 : goal.returns-then-boundaries-gt250
returns-then-boundaries-gt250 c = λ w. omega (arith, w.1, sum_total c.args.counts.now)

pub product_of-cells-requires : goal.product_of-cells-requires
product_of-cells-requires c = product_most c.args.counts.now c.if-counts-gt4.false (omega (arith, sum_total c.args.counts.now))

pub returns : goal.returns
returns c =
    let e = c.total_of-boundaries.ensures ∙ sum_total c.args.counts.now in
    (c.if-counts-gt4.false, omega arith, e, c.product_of-cells.ensures)
