use Rattle.std.proofs.Common.{◌≡◌, ◌<◌, true, length, is_ok, ◌∙◌, arith, rules}
use Rattle.std.proofs.lemmas.Bool.{both_ways}
use Rattle.stores.specs.Memory.{sector_pages}
use Rattle.stores.specs.Wholes.{pages_length}
use Rattle.stores.proofs.PageLists.{stored_ok}
use Rattle.stores.proofs.MemoryPages.{written_length}
use Rattle.wear.proofs.run.Goals as goal
use Rattle.wear.proofs.run.Goals.{then-is_ok, else-is_ok}

pub loop-step-preserved : goal.loop-step-preserved
loop-step-preserved c =
    let m = c.loop-step.store.memory.now in
    let inside : c.step-page.result < length (sector_pages m) = rw pages_length (omega arith) in
    let ok : is_ok c.write.result ≡ true = stored_ok _ _ _ _ _ c.write.ensures.stored inside in (
      elim c.if-is_ok.branch [
        | then-is_ok w ↦ omega (arith, w.writes-is)
        | else-is_ok w ↦ absurd (both_ways _ w.if-is_ok.false (c.is_ok.ensures.value ∙ ok))
      ],
      written_length _ _ _ _ _ c.write.ensures.written ∙ c.loop-step.invariant.1,
      search rules,
    )
