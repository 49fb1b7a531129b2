use Rattle.std.proofs.Common.{◌/◌, ◌%◌}
use Rattle.buckets.proofs.BucketViews.{zeros_zero}
use Rattle.buckets.proofs.PageBits.{no_bit}
use Rattle.buckets.proofs.page_map.PageMap.new.Goals as goal

pub returns : goal.returns
returns c = λ j. no_bit _ (j % 8) (zeros_zero 4096 (j / 8))
