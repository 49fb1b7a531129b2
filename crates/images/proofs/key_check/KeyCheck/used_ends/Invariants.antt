-- The cells so far have marked what they use.
use Rattle.std.proofs.Common.{◌≡◌, length}
use Rattle.images.proofs.Marks.{Marked}
use Rattle.images.proofs.key_check.KeyCheck.used_ends.Given as goal

abbrev pub invariant-loop-m : goal.invariant-loop-m
invariant-loop-m g l = (length l.used ≡ g.row.ENDS) × Marked l.self.inner.now l.self.image.now l.self.key l.m l.used
