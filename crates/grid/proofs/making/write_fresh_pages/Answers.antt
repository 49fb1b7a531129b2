-- Three writes, one after the other.
use Rattle.std.proofs.Common.{◌<◌, length, ap, ◌∙◌, subst, arith, length-set}
use Rattle.images.specs.Directory.{Image, directory_layout}
use Rattle.images.specs.Memory.{OneCell}
use Rattle.grid.proofs.OfFresh.{stored_in, fresh_pages, some_meaning}
use Rattle.grid.proofs.making.write_fresh_pages.Goals as goal

pub returns : goal.returns
returns g c =
    let ps = g.S.PageStore.pages c.args.store.now in
    let a = g.S.PageStore.pages c.write_root_pages.new.store in
    let b = g.S.PageStore.pages c.write.new.self in
    let qs = g.S.PageStore.pages c.write-2.new.self in
    let directory = c.write_directory.new.page in
    let bucket = c.start_bucket.new.page in
    let made = subst (OneCell 60 80 c.args.memory.now.space.keys (record { page = 9; level = 0 })) c.unwrap-image.ensures c.of_one_cell.ensures in
    let in-a : 8 < length a = omega (arith, c.requires, c.write_root_pages.ensures.as_many) in
    let eb = stored_in a b 8 directory c.write.result in-a c.write.ensures.stored in
    let in_b : 9 < length b = omega (arith, c.requires, c.write_root_pages.ensures.as_many, ap length eb, length-set a 8 directory) in
    let eq = stored_in b qs 9 bucket c.write-2.result in_b c.write-2.ensures.stored in
    fresh_pages c.args.memory.now ps a b qs c.write_root.new.bytes directory bucket c.requires c.write_root_pages.ensures eb eq c.write_root.ensures
    (c.write_directory.ensures ∙ ap (λ (i : Image). directory_layout 0 i) made.4) (c.start_bucket.ensures some_meaning).laid_out
