-- One key less each time.
use Rattle.std.proofs.Common.{length}
use Rattle.image_bytes.proofs.parsing.+ends_rise.Given as goal

abbrev pub decreases-ends_rise : goal.decreases-ends_rise
decreases-ends_rise l = length l.ends.now.counts.now
