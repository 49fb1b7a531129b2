use Rattle.std.proofs.Common.{◌≡◌, ◌<◌, length, arith}
use Rattle.buckets.specs.BucketRules.{count_of}
use Rattle.buckets.proofs.BucketPushes.{pushed_is, put_is}
use Rattle.buckets.proofs.bucket_writes.add_record.Goals as goal

pub returns : goal.returns
returns g c =
    let m = g.K.Kind.meaning c.args.kind.now in
    let page = c.args.page.now in
    let bytes = c.args.bytes.now in
    let sized : length bytes ≡ m.size = omega (arith, c.size-size.ensures) in
    let room : count_of page < m.capacity = omega (arith, c.capacity.ensures) in (
      sized,
      room,
      pushed_is m (g.met.K.Kind.lawful c.args.kind.now) page bytes sized room c.size-size.result _ _ c.size-size.ensures (omega arith) c.copy_from_slice.ensures.after,
      put_is m page bytes sized c.size-size.result _ _ c.size-size.ensures (omega arith) c.copy_from_slice.ensures.after,
    )
