use Rattle.std.proofs.Common.{refl, arith}
use Rattle.buckets.proofs.bucket_writes.start_bucket.Goals as goal

pub returns : goal.returns
returns c = λ m. record { laid_out = refl; few = omega arith; sized = λ j h. absurd (omega arith) }
