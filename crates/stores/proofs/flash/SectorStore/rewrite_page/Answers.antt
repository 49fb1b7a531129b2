use Rattle.std.proofs.Common.{◌+◌, ◌-◌, ◌*◌, ◌/◌, ◌%◌, ◌∙◌, arith}
use Rattle.stores.proofs.Erasing.{put_in, erased_programmed}
use Rattle.stores.proofs.MemoryPages.{sector_replaced}
use Rattle.stores.proofs.flash.SectorStore.rewrite_page.Goals as goal

pub returns : goal.returns
returns c =
    let m = c.args.self.now.memory.now in
    let b = c.args.bytes.now in
    let s = c.args.page / 8 in
    let a = 512 * (c.args.page % 8) in
    let put = put_in m c.load.new.buffer c.copy_from_slice.new.self b s a (a + 512 - a) (omega arith) (omega arith) c.load.ensures c.copy_from_slice.ensures.after (omega arith) c.told-bytes in
    let r = erased_programmed m _ _ _ _ b s a (omega arith) (omega arith) c.load.ensures put.0 put.1 c.erase.ensures.erased c.program.ensures.programmed c.program.ensures.bytes (512 * c.args.page) (omega arith) in
    record {
      stored = sector_replaced m _ c.args.page b r c.told-bytes c.requires;
      replaced = r;
      lent = c.program.ensures.lent ∙ c.erase.ensures.lent;
      worn = c.program.ensures.kept ∙ c.erase.ensures.counted;
    }
