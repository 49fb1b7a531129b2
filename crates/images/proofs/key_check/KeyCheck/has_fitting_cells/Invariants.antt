-- The cells so far fit.
use Rattle.std.proofs.Common.{ℕ, ◌<◌}
use Rattle.images.specs.Checking.{Fits}
use Rattle.images.proofs.key_check.KeyCheck.has_fitting_cells.Given as goal

abbrev pub invariant-loop-m : goal.invariant-loop-m
invariant-loop-m g l = (m : ℕ) → m < l.m → Fits l.self.inner.now l.self.image.now l.self.key m
