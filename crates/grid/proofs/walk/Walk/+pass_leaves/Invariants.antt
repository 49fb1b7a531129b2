-- The halvings that are left.
use Rattle.std.proofs.Common.{◌-◌}
use Rattle.grid.proofs.walk.Walk.+pass_leaves.Given as goal

abbrev pub decreases-pass_leaves : goal.decreases-pass_leaves
decreases-pass_leaves g l = l.self.now.inner.space.now.depth - l.self.now.inner.level
