-- The counts that are left make up the product.
use Rattle.std.proofs.Common.{◌≡◌, ◌*◌, drop}
use Rattle.images.specs.Parts.{product}
use Rattle.images.proofs.image_size.product_of.Given as goal

abbrev pub invariant-loop-count : goal.invariant-loop-count
invariant-loop-count l = l.cells * product (drop l.count-index l.counts) ≡ product l.counts
