-- The ends of a key stand behind those of the keys before it.
use Rattle.std.proofs.Common.{◌+◌, ◌∙◌, arith}
use Rattle.images.proofs.Memory.{first_is, first_next, first_most, part_is}
use Rattle.images.proofs.held_image.HeldImage.scale.Goals as goal

pub total_of-from-requires : goal.total_of-from-requires
total_of-from-requires g c = let d = c.args.self.now in omega (arith, first_is d c.args.key c.requires, first_most d c.args.key, d.most_ends)

pub overflow_add-result : goal.overflow_add-result
overflow_add-result g c = let d = c.args.self.now in omega (arith, c.total_of-from.ensures, first_is d c.args.key c.requires, first_next d c.args.key c.requires, first_most d (c.args.key + 1), d.most_ends)

pub offset_bounds-ends-from : goal.offset_bounds-ends-from
offset_bounds-ends-from g c = let d = c.args.self.now in omega (arith, c.total_of-from.ensures, first_is d c.args.key c.requires, first_next d c.args.key c.requires, first_most d (c.args.key + 1), d.most_ends)

pub slice_bounds-result-end : goal.slice_bounds-result-end
slice_bounds-result-end g c = let d = c.args.self.now in omega (arith, c.total_of-from.ensures, first_is d c.args.key c.requires, first_next d c.args.key c.requires, first_most d (c.args.key + 1), d.long)

pub returns : goal.returns
returns g c =
    let d = c.args.self.now in
    part_is d c.args.key c.total_of-from.result c.requires (c.total_of-from.ensures ∙ first_is d c.args.key c.requires)
