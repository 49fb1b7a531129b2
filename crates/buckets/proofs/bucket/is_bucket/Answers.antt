use Rattle.std.proofs.Common.{◌≡◌, length, sym, subst}
use Rattle.boxes.specs.GridBoxes.{box_of}
use Rattle.boxes.specs.Spaces.{widths_of, order_of}
use Rattle.buckets.specs.Bucket.{KeysIn}
use Rattle.buckets.specs.BucketRules.{BucketRules}
use Rattle.buckets.proofs.BucketChecks.{box_long, bucket_from_rules, rules_from_bucket}
use Rattle.buckets.proofs.bucket.is_bucket.Goals as goal

pub returns : goal.returns
returns g c =
    let m = g.K.Kind.meaning c.args.kind.now in
    let law = g.met.K.Kind.lawful c.args.kind.now in
    let inner = c.args.inner.now in
    let s = inner.space.now in
    let b = box_of inner in
    let page = c.args.page.now in
    let long : length page ≡ 512 = c.told-page in (
      λ e. bucket_from_rules m law (widths_of s) (order_of s) b page long (subst (λ l. BucketRules m (KeysIn (widths_of s) (order_of s) b) l page) (sym (box_long inner)) (c.keeps_rules.ensures.0 e)),
      λ p. c.keeps_rules.ensures.1 (subst (λ l. BucketRules m (KeysIn (widths_of s) (order_of s) b) l page) (box_long inner) (rules_from_bucket m law (widths_of s) (order_of s) b page long p.0 p.1)),
    )
