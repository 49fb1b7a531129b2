use Rattle.stores.proofs.Erasing.{programmed_alone}
use Rattle.stores.proofs.MemoryPages.{sector_replaced}
use Rattle.stores.proofs.flash.SectorStore.program_page.Goals as goal

pub returns : goal.returns
returns c =
    let m = c.args.self.now.memory.now in
    let b = c.args.bytes.now in
    let r = programmed_alone b c.told-bytes c.requires.programs c.program.ensures.programmed in
    record {
      stored = sector_replaced m _ c.args.page b r c.told-bytes c.requires.page_bound;
      replaced = r;
      lent = c.program.ensures.lent;
      unworn = c.program.ensures.kept;
    }
