-- The keys from the first on make up the product.
use Rattle.std.proofs.Common.{◌∙◌, arith}
use Rattle.images.proofs.Memory.{product_is, product_pos, product_small}
use Rattle.images.proofs.held_image.HeldImage.cells_from.Goals as goal

pub product_of-requires : goal.product_of-requires
product_of-requires g c = let d = c.args.self.now in omega (arith, product_is d c.args.first c.requires, product_small d c.args.first, d.most_cells)

pub returns : goal.returns
returns g c =
    let d = c.args.self.now in
    let e = c.product_of.ensures ∙ product_is d c.args.first c.requires in
    record { product = e; some = omega (arith, e, product_pos d c.args.first); most = omega (arith, e, product_small d c.args.first) }
