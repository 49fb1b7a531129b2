-- The halvings so far, with those of the rounds that are left, are the order.
use Rattle.std.proofs.Common.{◌≡◌, ◌+◌, ◌-◌, ◌≤◌, ◌++◌, length, take, drop}
use Rattle.boxes.specs.Order.{order, round, rounds, widest}
use Rattle.boxes.proofs.spaces.halving_order.Given as goal

abbrev pub invariant-loop-round : goal.invariant-loop-round
invariant-loop-round l = (length l.halvings ≡ 60) × (l.depth ≤ 60)
    × (take l.depth l.halvings ++ rounds (widest l.widths - l.round) l.round l.widths ≡ order l.widths)

abbrev pub invariant-loop-key : goal.invariant-loop-key
invariant-loop-key l = (length l.halvings ≡ 60) × (l.depth ≤ 60)
    × (take l.depth l.halvings ++ (round l.round l.key (drop l.key l.widths) ++ rounds (widest l.widths - (l.round + 1)) (l.round + 1) l.widths) ≡ order l.widths)
