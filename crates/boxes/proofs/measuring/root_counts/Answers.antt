use Rattle.std.proofs.Common.{length, sym, ap, ◌∙◌, arith}
use Rattle.std.proofs.lemmas.List.{length-set}
use Rattle.std.proofs.lemmas.List.Sorted.{IsPermutation-trans}
use Rattle.boxes.specs.Directories.{ends}
use Rattle.boxes.specs.Spaces.{widths_of, order_of}
use Rattle.boxes.proofs.OfFigures.{directories_shuffled, counted_more}
use Rattle.boxes.proofs.OfRoots.{all_directories}
use Rattle.boxes.proofs.measuring.root_counts.Goals as goal

pub root_ends-requires-clause-points_in_bounds : goal.root_ends-requires-clause-points_in_bounds
root_ends-requires-clause-points_in_bounds c =
    omega (arith, c.requires, c.loop-key.auto.room, ap length (directories_shuffled c.args.space.now c.args.capacity c.args.points.now c.loop-key.points c.loop-key.invariant.1))

pub loop-key-preserved : goal.loop-key-preserved
loop-key-preserved c =
    let s = c.args.space.now in
    let ps = c.args.points.now in
    let inv = c.loop-key.invariant in
    let key = c.loop-key.key in
    let same = directories_shuffled s c.args.capacity ps c.loop-key.points inv.1 in (
      length-set c.loop-key.count-items key c.root_ends.result ∙ inv.0,
      IsPermutation-trans ps c.loop-key.points c.root_ends.new.points inv.1 c.root_ends.ensures.same,
      counted_more c.loop-key.count-items (ends (widths_of s) (order_of s) (all_directories s c.args.capacity ps)) key c.root_ends.result (omega (arith, c.loop-key-test.true, c.loop-key.auto.count-items))
          (c.root_ends.ensures.counted ∙ ap (λ ds. ends (widths_of s) (order_of s) ds key) (sym same)) inv.2,
    )
