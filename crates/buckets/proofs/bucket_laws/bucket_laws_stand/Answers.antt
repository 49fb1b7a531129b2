-- The laws, each by its proof.
use Rattle.buckets.proofs.BucketViews.{one_bucket, records_placed, buckets_full}
use Rattle.buckets.proofs.bucket_laws.bucket_laws_stand.Goals as goal

pub returns : goal.returns
returns c = record { one = one_bucket; placed = records_placed; full = buckets_full }
