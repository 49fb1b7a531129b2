use Rattle.stores.proofs.MemoryPages.{page_loaded}
use Rattle.stores.proofs.flash.SectorStore.load_page.Goals as goal

pub returns : goal.returns
returns c = page_loaded c.args.self.now.memory.now _ _ c.args.page _ c.load.ensures c.told-buffer c.requires
