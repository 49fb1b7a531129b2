use Rattle.std.proofs.Common.{◌∙◌}
use Rattle.std.proofs.lemmas.List.{length-set}
use Rattle.stores.proofs.PageLists.{whole_set}
use Rattle.stores_tests.proofs.ram.RamStorePageStore.write.Goals as goal

pub invariant_of-self : goal.invariant_of-self
invariant_of-self c =
    let s = c.args.self.now in
    record { four = length-set s.pages _ _ ∙ s.four; whole = whole_set s.pages _ _ s.whole c.told-bytes }
