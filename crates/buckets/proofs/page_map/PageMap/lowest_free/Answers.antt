-- The search over the pages finds the first free one.
use Rattle.std.proofs.Common.{◌≡◌, ℕ, min, false, rules}
use borrow.Author.Tests.{tests}
use Rattle.std.proofs.lemmas.Iterator.{first_from_Range}
use Rattle.buckets.specs.PageMaps.{used}
use Rattle.buckets.proofs.BucketFinds.{first_in_range}
use Rattle.buckets.proofs.page_map.PageMap.lowest_free.Goals as goal

pub returns : goal.returns
returns c =
    let P : ℕ → Type 0 = λ j. used c.args.self.now j ≡ false in
    first_in_range P (λ _. Unit {0}) (min c.args.pages 32768) _ c.find.result c.min.ensures (λ k h. tt)
    (first_from_Range _ _ _ _ (λ j. Unit {0} → P j) (λ j. Unit {0} → P j → ⊥) c.find.ensures.ran (λ x q k. search (rules, tests)) (λ x q k. search (rules, tests)))
