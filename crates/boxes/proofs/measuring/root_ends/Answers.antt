use Rattle.std.proofs.Common.{◌∙◌, sym, arith}
use Rattle.std.proofs.lemmas.List.{length-take-le}
use Rattle.std.proofs.lemmas.List.Sorted.{IsNonDecreasingBy-from_sort}
use Rattle.boxes.proofs.OfFigures.{directory_total}
use Rattle.boxes.proofs.OfRoots.{root_counted}
use Rattle.boxes.proofs.measuring.root_ends.Goals as goal

pub slice_bounds-lower_ends-end : goal.slice_bounds-lower_ends-end
slice_bounds-lower_ends-end c =
    omega (arith, directory_total c.args.space.now c.args.capacity c.args.points.now c.whole.result c.whole.ensures c.survey-found.result c.survey-found.ensures.found, c.requires.points_in_bounds, c.survey-found.auto.room)

pub slice_bounds-lower_ends-end-2 : goal.slice_bounds-lower_ends-end-2
slice_bounds-lower_ends-end-2 c =
    let total = directory_total c.args.space.now c.args.capacity c.args.points.now c.whole.result c.whole.ensures c.survey-found.result c.survey-found.ensures.found in
    sym (length-take-le c.survey-found.result.directory_boxes c.survey-found.new.room (omega (arith, total, c.requires.points_in_bounds, c.survey-found.auto.room)))

pub different-requires : goal.different-requires
different-requires c = IsNonDecreasingBy-from_sort (λ x. x) c.sort_unstable.new.self c.sort_unstable.ensures.sorted

pub returns-clause-counted : goal.returns-clause-counted
returns-clause-counted c =
    c.different.ensures
    ∙ root_counted c.args.space.now c.args.capacity c.args.points.now c.whole.result c.whole.ensures c.args.key c.survey-found.result c.survey-found.ensures.found c.survey-found.new.room c.survey-found.ensures.notes
    (omega (arith, c.requires.points_in_bounds, c.survey-found.auto.room)) c.sort_unstable.new.self c.sort_unstable.ensures.permutation
