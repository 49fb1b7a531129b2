-- The search over the places finds the first record with the keys.
use Rattle.std.proofs.Common.{◌≡◌, ℕ, ◌<◌, min, Some, arith, rules}
use borrow.Author.Tests.{tests}
use Rattle.std.proofs.lemmas.Iterator.{first_from_Range}
use Rattle.buckets.specs.Bucket.{record_at}
use Rattle.buckets.specs.BucketRules.{count_of}
use Rattle.buckets.proofs.BucketFinds.{first_in_range, found_listed}
use Rattle.buckets.proofs.bucket_writes.place_of.Goals as goal

pub returns-clause-any : goal.returns-clause-any
returns-clause-any g c =
    let m = g.K.Kind.meaning c.args.kind.now in
    let P : ℕ → Type 0 = λ i. m.read (record_at m c.args.page.now i) ≡ Some c.args.keys.now in
    first_in_range P (λ i. i < m.capacity) (min (count_of c.args.page.now) m.capacity) _ c.find.result c.record_count.ensures.any (λ k h. omega arith)
    (first_from_Range _ _ _ _ (λ i. i < m.capacity → P i) (λ i. i < m.capacity → P i → ⊥) c.find.ensures.ran (λ x q k. search (rules, tests)) (λ x q k. search (rules, tests)))

pub returns-clause-listed : goal.returns-clause-listed
returns-clause-listed g c = λ level rs of. found_listed (g.K.Kind.meaning c.args.kind.now) (g.met.K.Kind.lawful c.args.kind.now) c.args.page.now c.args.keys.now level rs of c.find.result (returns-clause-any g c)
