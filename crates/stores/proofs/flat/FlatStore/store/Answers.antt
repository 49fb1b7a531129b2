use Rattle.std.proofs.Common.{◌*◌, refl, arith}
use Rattle.stores.proofs.Runs.{copied}
use Rattle.stores.proofs.MemoryPages.{flat_replaced}
use Rattle.stores.proofs.flat.FlatStore.store.Goals as goal

pub returns : goal.returns
returns c =
    let m = c.args.self.now.memory.now in
    let b = c.args.bytes.now in
    let r = copied m b c.copy_from_slice.new.self (512 * c.args.page) _ 512 c.copy_from_slice.ensures.after (omega arith) c.told-bytes (omega arith) in
    record { stored = flat_replaced m _ c.args.page b r c.told-bytes c.requires; replaced = r; lent = refl }
