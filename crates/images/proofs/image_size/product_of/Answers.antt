-- Each turn takes one count into the product.
use Rattle.std.proofs.Common.{arith}
use Rattle.images.proofs.Counts.{turned, so_far, one_of, turned_all}
use Rattle.images.proofs.image_size.product_of.Goals as goal

pub overflow_add-cells : goal.overflow_add-cells
overflow_add-cells c = omega (arith, c.requires, one_of c.args.counts.now c.loop-count.count-index c.loop-count.cells c.loop-count-test.true c.loop-count.invariant)

pub overflow_mul-cells : goal.overflow_mul-cells
overflow_mul-cells c = omega (arith, c.requires, so_far c.args.counts.now c.loop-count.count-index c.loop-count.cells c.loop-count-test.true c.loop-count.invariant)

pub loop-count-preserved : goal.loop-count-preserved
loop-count-preserved c = turned c.args.counts.now c.loop-count.count-index c.loop-count.cells c.loop-count-test.true c.loop-count.invariant

pub returns : goal.returns
returns c = turned_all c.args.counts.now c.loop-count.count-index c.loop-count.cells c.loop-count-test.false c.loop-count.invariant
