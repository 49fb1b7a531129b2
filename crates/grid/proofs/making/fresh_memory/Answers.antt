-- The image of one cell is lawful.
use Rattle.std.proofs.Common.{ℕ, [], sym, ap, ◌∙◌, subst, arith}
use Rattle.boxes.specs.Spaces.{widths_of, order_of}
use Rattle.images.specs.Directory.{Image, Tile, Lawful, one_cell}
use Rattle.images.specs.Memory.{OneCell}
use Rattle.grid.proofs.making.fresh_memory.Goals as goal

pub invariant_of-result : goal.invariant_of-result
invariant_of-result c =
    let s = c.args.space in
    let n = c.args.pages in
    let cell : Tile = record { page = 8; level = 0 } in
    let law = (c.image_laws_stand.ensures.plain (widths_of s) (order_of s) n 250 1024 8 (omega arith) (omega arith) (omega (arith, c.requires.le_pages))).0 in
    let made = subst (OneCell 250 1024 s.keys (record { page = 8; level = 0 })) c.unwrap-root.ensures c.of_one_cell.ensures in
    let same = made.4 ∙ ap (λ (k : ℕ). one_cell k cell) (sym s.wide) in
    record { most = c.requires.pages_bound; enough = omega (arith, c.requires.le_pages); lawful = ∣ subst (λ (i : Image). Lawful (widths_of s) (order_of s) [] n 250 1024 i) (sym same) law ∣₁ }
