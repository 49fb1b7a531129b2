-- The records are valid and apart exactly where each is valid and the first with its keys.
use Rattle.std.proofs.Common.{ℕ, refl, rules, arith}
use borrow.Author.Tests.{tests}
use Rattle.std.proofs.lemmas.Iterator.{cases_from_all, YieldsList-from_range}
use Rattle.std.proofs.lemmas.Bool.Decides.{Decides-like}
use Rattle.boxes.specs.GridBoxes.{box_of}
use Rattle.buckets.specs.Bucket.{Held}
use Rattle.buckets.specs.BucketRules.{FirstRight, count_of}
use Rattle.buckets.proofs.BucketWalk.{all_in_range, valid_from_firsts, firsts_from_valid}
use Rattle.buckets.proofs.bucket.has_valid_records.Goals as goal

pub returns : goal.returns
returns g c =
    let m = g.K.Kind.meaning c.args.kind.now in
    let inner = c.args.inner.now in
    let right = Held inner.space.now (box_of inner) in
    let page = c.args.page.now in
    let P : ℕ → Type 0 = FirstRight m right page in
    let told = cases_from_all _ _ c.all.result P (λ i. P i → ⊥) c.all.ensures.ran (YieldsList-from_range 0 (count_of page) (count_of page) refl (omega arith)) (λ x q k. search (rules, tests)) (λ x q k. search (rules, tests)) in
    Decides-like c.all.result (valid_from_firsts m right page) (λ r. firsts_from_valid m right page r c.requires) (all_in_range P (count_of page) c.all.result told)
