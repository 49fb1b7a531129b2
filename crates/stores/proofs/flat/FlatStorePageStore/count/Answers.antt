use Rattle.std.proofs.Common.{sym}
use Rattle.stores.specs.Wholes.{pages_length}
use Rattle.stores.proofs.flat.FlatStorePageStore.count.Goals as goal

pub returns-clause-counted : goal.returns-clause-counted
returns-clause-counted c = sym (pages_length _ c.args.self.now.memory.now)
