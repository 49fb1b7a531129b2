-- The counts lie within the largest image.
use Rattle.std.proofs.Common.{take, ◌∙◌, arith}
use Rattle.images.proofs.Counts.{sum_total, product_most, cells_in}
use Rattle.images.proofs.held_image.HeldImage.size.Goals as goal

pub total_of-requires : goal.total_of-requires
total_of-requires g c = let d = c.args.self.now in omega (arith, sum_total (take d.keys d.counts), d.room, d.most_ends)

pub product_of-requires : goal.product_of-requires
product_of-requires g c = let d = c.args.self.now in product_most (take d.keys d.counts) (omega (arith, d.wide, d.few)) (omega (arith, d.room, d.most_ends))

pub returns-clause-counted : goal.returns-clause-counted
returns-clause-counted g c =
    let d = c.args.self.now in
    (omega (arith, d.wide, d.few), omega (arith, d.room, d.most_ends), c.total_of.ensures ∙ sum_total (take d.keys d.counts), c.product_of.ensures)

pub returns-clause-few_ends : goal.returns-clause-few_ends
returns-clause-few_ends g c = let d = c.args.self.now in omega (arith, c.total_of.ensures, sum_total (take d.keys d.counts), d.room)

pub returns-clause-few_cells : goal.returns-clause-few_cells
returns-clause-few_cells g c = let d = c.args.self.now in omega (arith, c.product_of.ensures, cells_in d, d.small)
