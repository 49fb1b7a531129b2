-- Each half is one level deeper.
use Rattle.std.proofs.Common.{◌-◌}
use Rattle.tilings.proofs.showing.+ends_inside.Given as goal

abbrev pub decreases-ends_inside : goal.decreases-ends_inside
decreases-ends_inside l = l.inner.now.space.now.depth - l.inner.now.level
