use Rattle.std.proofs.Common.{◌≡◌, ℕ, ◌<◌, length, get_or, sym, refl, ap, ◌∙◌, arith, rules}
use Rattle.std.proofs.lemmas.List.{length-take-le}
use Rattle.std.proofs.lemmas.List.Sorted.{IsPermutation-trans}
use Rattle.std.proofs.lemmas.Slice.{drop-append-drop}
use Rattle.boxes.specs.declared.figures.Figures.{Figures}
use Rattle.boxes.specs.Directories.{ends}
use Rattle.boxes.specs.Spaces.{widths_of, order_of}
use Rattle.boxes.proofs.OfFigures.{directories_shuffled, root_countable, root_boundaries, root_cells, figures_are, figures_made, figures_shuffled, leaf_total, directory_total, totals_fit}
use Rattle.boxes.proofs.OfRoots.{all_directories}
use Rattle.boxes.proofs.measuring.measure.Goals as goal

pub returns-then-room-found-clause-measured : goal.returns-then-room-found-clause-measured
returns-then-room-found-clause-measured c =
    let s = c.args.space.now in
    let ps = c.args.points.now in
    let total = directory_total s c.args.capacity ps c.whole.result c.whole.ensures c.survey-found.result c.survey-found.ensures.found in (
      c.are_points.ensures.0 c.if-not-are_points.false,
      total ∙ ap (λ (f : Figures). f.directory_boxes) (figures_are s c.args.capacity ps),
      c.if-room-found.true,
      (c.survey-found.ensures.same, figures_shuffled s c.args.capacity ps c.survey-found.new.points c.survey-found.ensures.same),
      refl,
    )

pub root_counts-counts-requires : goal.root_counts-counts-requires
root_counts-counts-requires c =
    let s = c.args.space.now in
    let ps = c.args.points.now in
    let qs = c.survey-found.new.points in
    let total = directory_total s c.args.capacity ps c.whole.result c.whole.ensures c.survey-found.result c.survey-found.ensures.found in
    let n = c.survey-found.result.directory_boxes in
    omega (arith, total, c.if-room-found.false, length-take-le n c.args.room.now (omega (arith, c.if-room-found.false)), ap length (directories_shuffled s c.args.capacity ps qs c.survey-found.ensures.same))

pub of-root-requires : goal.of-root-requires
of-root-requires c =
    let four : length c.root_counts-counts.result ≡ 4 = search rules in
    root_countable c.args.space.now c.args.capacity c.survey-found.new.points c.root_counts-counts.result four c.root_counts-counts.ensures.counted

pub overflow_add-result-2 : goal.overflow_add-result-2
overflow_add-result-2 c =
    omega (arith, totals_fit c.args.space.now c.args.capacity c.args.points.now c.whole.result c.whole.ensures c.survey-found.result c.survey-found.ensures.found)

pub returns-clause-measured : goal.returns-clause-measured
returns-clause-measured c =
    let s = c.args.space.now in
    let n = c.args.capacity in
    let ps = c.args.points.now in
    let qs = c.survey-found.new.points in
    let ns = c.root_counts-counts.result in
    let x = c.survey-found.result in
    let four : length ns ≡ 4 = search rules in
    let same = directories_shuffled s n ps qs c.survey-found.ensures.same in
    let all = IsPermutation-trans ps qs c.root_counts-counts.new.points c.survey-found.ensures.same c.root_counts-counts.ensures.same in
    let counted : (i : ℕ) → i < s.keys → get_or ns i 0 ≡ ends (widths_of s) (order_of s) (all_directories s n ps) i =
    λ i h. c.root_counts-counts.ensures.counted i h ∙ ap (λ ds. ends (widths_of s) (order_of s) ds i) (sym same) in (
      c.are_points.ensures.0 c.if-not-are_points.false,
      figures_made s n ps x.leaf_boxes x.directory_boxes c.of-root.result.boundaries c.of-root.result.cells c.keeps_limits.result
          (leaf_total s n ps c.whole.result c.whole.ensures x c.survey-found.ensures.found)
          (directory_total s n ps c.whole.result c.whole.ensures x c.survey-found.ensures.found)
          (c.of-root.ensures.boundaries ∙ root_boundaries s n ps ns four counted)
          (c.of-root.ensures.cells ∙ root_cells s n ps ns four counted)
          c.keeps_limits.ensures,
      c.if-room-found.false,
      (all, figures_shuffled s n ps c.root_counts-counts.new.points all),
    )

pub returns-clause-rest : goal.returns-clause-rest
returns-clause-rest c =
    let n = c.survey-found.result.directory_boxes in
    let long : length c.root_counts-counts.new.room ≡ n = c.root_counts-counts.auto.room ∙ length-take-le n c.args.room.now (omega (arith, c.if-room-found.false)) in
    drop-append-drop n c.args.room.now c.root_counts-counts.new.room n (omega arith) long
