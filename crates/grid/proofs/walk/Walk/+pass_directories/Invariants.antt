-- The halvings that are left.
use Rattle.std.proofs.Common.{◌-◌}
use Rattle.grid.proofs.walk.Walk.+pass_directories.Given as goal

abbrev pub decreases-pass_directories : goal.decreases-pass_directories
decreases-pass_directories g l = l.self.now.inner.space.now.depth - l.self.now.inner.level
