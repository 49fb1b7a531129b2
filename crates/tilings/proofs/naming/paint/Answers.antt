-- A cell whose corner lies in the box is painted, another is not.
use Rattle.std.proofs.Common.{◌≡◌, ℕ, ◌+◌, ◌<◌, List, ◌++◌, length, take, drop, sym, ap, ◌∙◌, subst, arith}
use Rattle.std.proofs.lemmas.Bool.{both_ways}
use Rattle.std.proofs.lemmas.List.{length-take-le, get_or-take, get_or_append_left, set-get_or}
use Rattle.images.specs.declared.held_image.Named.{Named}
use Rattle.images.specs.Cells.{corner}
use Rattle.images.specs.Directory.{intervals}
use Rattle.images.specs.SideBySide.{by_key}
use Rattle.images.proofs.Counts.{cells_in}
use Rattle.images.proofs.Memory.{keys_in}
use Rattle.images.proofs.Turns.{length_parted}
use Rattle.tilings.specs.Naming.{Within, cell, corner_from}
use Rattle.tilings.proofs.Painting.{PaintedSo, paint_hit, paint_miss}
use Rattle.tilings.proofs.naming.paint.Goals as goal
use Rattle.tilings.proofs.naming.paint.Goals.{then-contains, else-contains}

pub corner_of-corner-requires-clause-four_keys : goal.corner_of-corner-requires-clause-four_keys
corner_of-corner-requires-clause-four_keys g c =
    let d = c.args.image.now in
    let s = c.scales.result in
    omega (arith, length_parted s.counts.now s.ends.now, ap length c.scales.ensures, keys_in d, d.few)

pub corner_of-corner-requires-clause-cells_value : goal.corner_of-corner-requires-clause-cells_value
corner_of-corner-requires-clause-cells_value g c = c.size-count.ensures.counted.3 ∙ cells_in c.args.image.now ∙ ap intervals (sym c.scales.ensures)

pub loop-number-preserved : goal.loop-number-preserved
loop-number-preserved g c =
    let d = c.args.image.now in
    let s = c.scales.result in
    let low = c.args.low.now in
    let b = c.args.outer.now in
    let n = c.args.named in
    let old = take c.size-count.result.cells c.args.cells.now in
    let i = c.loop-number.number in
    let new = c.loop-number.cell-items in
    let point = c.corner_of-corner.result in
    let keys : length s.counts.now ≡ d.keys = omega (arith, length_parted s.counts.now s.ends.now, ap length c.scales.ensures, keys_in d) in
    let e : take d.keys point ≡ corner_from d low i =
    subst (λ (es : List (List ℕ)). take d.keys point ≡ corner (take d.keys low) es i) c.scales.ensures
    (subst (λ k. take k point ≡ corner (take k low) (by_key s) i) keys c.corner_of-corner.ensures) in
    elim c.if-contains.branch [
      | then-contains w ↦
          let v = subst (Within b) e (c.contains.ensures.0 w.if-contains.true) in
          let l : i < length new = omega (arith, c.loop-number-test.true, c.loop-number.invariant.2) in
          subst (λ (us : List Named). PaintedSo d low b n old (i + 1) us) (sym w.cell-items-is) (paint_hit d low b n old i new c.loop-number.invariant l v)
      | else-contains w ↦
          let v = λ (z : Within b (corner_from d low i)). both_ways c.contains.result w.if-contains.false (c.contains.ensures.1 (subst (Within b) (sym e) z)) in
          subst (λ (us : List Named). PaintedSo d low b n old (i + 1) us) (sym (w.cell-items-is ∙ set-get_or new i _)) (paint_miss d low b n old i new c.loop-number.invariant v)
    ]

pub returns-clause-named : goal.returns-clause-named
returns-clause-named g c =
    let d = c.args.image.now in
    let k = c.size-count.result.cells in
    let old = c.args.cells.now in
    let new = c.loop-number.cell-items in
    let none : Named = record { page = 0; level = 0 } in
    λ m l.
    let inside : m < k = omega (arith, cells_in d, c.size-count.ensures.counted.3, l) in
    let wide : length (take k old) ≡ k = length-take-le k old (omega (arith, c.size-count.ensures.few_cells, c.told-cells)) in
    let here : cell (new ++ drop k old) m ≡ cell new m = get_or_append_left new (drop k old) none m (omega (arith, wide, c.loop-number.invariant.2, inside)) in
    let before : cell (take k old) m ≡ cell old m = get_or-take k old m none inside in
    let painted = c.loop-number.invariant.0 m (omega (arith, inside, wide, c.loop-number-test.false)) in
    ((λ w. here ∙ painted.0 w), (λ w. here ∙ painted.1 w ∙ before))
