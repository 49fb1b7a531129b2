-- The halvings that are left.
use Rattle.std.proofs.Common.{◌-◌}
use Rattle.boxes.proofs.surveys.+survey.Given as goal

abbrev pub decreases-survey : goal.decreases-survey
decreases-survey l = l.inner.now.space.now.depth - l.inner.now.level
