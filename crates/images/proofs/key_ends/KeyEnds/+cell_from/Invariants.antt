-- One key less each time.
use Rattle.std.proofs.Common.{length}
use Rattle.images.proofs.key_ends.KeyEnds.+cell_from.Given as goal

abbrev pub decreases-cell_from : goal.decreases-cell_from
decreases-cell_from l = length l.point.now
