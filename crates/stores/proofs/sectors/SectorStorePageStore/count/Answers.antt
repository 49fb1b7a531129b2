use Rattle.std.proofs.Common.{◌*◌, ◌/◌, length, arith}
use Rattle.stores.specs.Wholes.{pages_length}
use Rattle.stores.proofs.sectors.SectorStorePageStore.count.Goals as goal

pub returns-clause-counted : goal.returns-clause-counted
returns-clause-counted c =
    let m = c.args.self.now.memory.now in
    omega (arith, pages_length (8 * (length m / 4096)) m)
