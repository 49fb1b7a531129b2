use Rattle.std.proofs.Common.{arith}
use Rattle.stores.proofs.MemoryPages.{page_loaded}
use Rattle.stores.proofs.flat.FlatStore.load.Goals as goal

pub returns : goal.returns
returns c = page_loaded c.args.self.now.memory.now _ _ c.args.page _ c.copy_from_slice.ensures.after (omega arith) c.requires
