use Rattle.std.proofs.Common.{◌≡◌, length}
use Rattle.wear.proofs.run.Given as goal

abbrev pub invariant-loop-step : goal.invariant-loop-step
invariant-loop-step l = (l.writes ≡ l.step) × (length l.store.memory.now ≡ 16384) × (length l.image ≡ 512)
