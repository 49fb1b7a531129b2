use Rattle.std.proofs.Common.{arith}
use Rattle.buckets.proofs.BucketPushes.{gap_closed}
use Rattle.buckets.proofs.bucket_writes.close_gap.Goals as goal

pub returns : goal.returns
returns c = gap_closed c.args.page.now c.copy_within.new.self c.args.start c.args.size c.fill.new.self c.requires c.told-page (omega arith) c.copy_within.ensures.by_index (c.fill.ensures.after (λ y e. e))
