use Rattle.std.proofs.Common.{◌+◌, ◌*◌, ◌<◌, min, refl, subst, arith}
use Rattle.buckets.specs.BucketRules.{count_of}
use Rattle.buckets.specs.BucketWrites.{Closed}
use Rattle.buckets.proofs.BucketPushes.{taken_is}
use Rattle.buckets.proofs.bucket_writes.take_out.Goals as goal

pub returns : goal.returns
returns g c =
    let m = g.K.Kind.meaning c.args.kind.now in
    let page = c.args.page.now in
    let place = c.args.place in
    let room : place < min (count_of page) m.capacity = omega (arith, c.record_count.ensures.any) in
    let z = c.size-size.ensures in (
      room,
      taken_is m (g.met.K.Kind.lawful c.args.kind.now) page c.close_gap.new.page place (omega arith) c.close_gap.array_long c.size-size.result z c.close_gap.ensures,
      (c.close_gap.new.page, subst (λ n. Closed page (4 + place * n) n c.close_gap.new.page) z c.close_gap.ensures, refl),
    )
