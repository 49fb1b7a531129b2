-- The strings that are put side by side are the layout.
use Rattle.std.proofs.Common.{ℕ, ◌+◌, ◌*◌, ◌≤◌, List, length, get_or, take, sym, subst, arith}
use Rattle.images.specs.Memory.{tile_in}
use Rattle.image_bytes.specs.Fields.{Put}
use Rattle.image_bytes.proofs.Answered.{written_image, cells_written}
use Rattle.image_bytes.proofs.writing.write_image.Goals as goal

pub returns : goal.returns
returns g c =
    let d = c.args.image.now in
    let size = c.size-size.ensures.counted in
    let n = c.size-size.result.boundaries in
    let m = c.size-size.result.cells in
    let few : m ≤ g.row.CELLS = c.size-size.ensures.few_cells in
    let many : m ≤ length d.cells = omega (arith, few, d.many) in
    let room : n ≤ length d.ends = omega (arith, size.2, d.room, d.long) in
    let fits : 16 + 4 * n + 3 * m ≤ length c.args.bytes.now = omega (arith, c.requires, size.2, d.room, few) in
    written_image (take d.keys d.counts) d.ends n m (sym size.2) (sym size.3) room
    (tile_in d) (get_or c.args.mark 0 0) (get_or c.args.mark 1 0) c.args.level (omega (arith, d.wide, d.few))
    c.args.bytes.now c.write_heading.new.bytes c.put_all.new.bytes c.put_all-2.new.bytes c.clear.new.bytes fits
    c.write_heading.ensures c.put_all.ensures
    (subst (λ (us : List ℕ). Put c.put_all.new.bytes (16 + 4 * n) us c.put_all-2.new.bytes) (cells_written m d.cells many) c.put_all-2.ensures) c.clear.ensures
