-- The box so far is the one of its level around the point.
use Rattle.std.proofs.Common.{◌≡◌}
use Rattle.boxes.specs.GridBoxes.{box_of}
use Rattle.boxes.specs.Space.{box_at}
use Rattle.boxes.specs.Spaces.{widths_of, order_of}
use Rattle.boxes.proofs.grid_box.GridBox.around.Given as goal

abbrev pub invariant-loop-step : goal.invariant-loop-step
invariant-loop-step l = (l.inner.level ≡ l._step) × (l.inner.space.now ≡ l.space)
    × (box_of l.inner ≡ box_at (widths_of l.space) (order_of l.space) l._step l.point)
