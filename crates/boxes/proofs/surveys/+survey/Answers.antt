use Rattle.std.proofs.Common.{◌≡◌, ◌-◌, length, drop, Some, None, true, false, sym, refl, ap, subst, arith}
use Rattle.std.specs.List.Sorted.{IsPermutation}
use Rattle.std.proofs.lemmas.List.{length-drop, length-take}
use Rattle.boxes.specs.declared.space.Space.{Space}
use Rattle.boxes.specs.GridBoxes.{box_of}
use Rattle.boxes.specs.Surveys.{Noted, Surveyed, leaves_in}
use Rattle.boxes.proofs.Halvings.{half_falls}
use Rattle.boxes.proofs.OfSurveys.{halving, leaf_keeps, leaf_surveyed, alone_noted, parts_back, room_back, both_shuffled, leaf_boxes_fit, directory_boxes_fit, surveyed_shut, surveyed_open, keeps_all, notes_open}
use Rattle.boxes.proofs.surveys.+survey.Goals as goal

pub returns-in_default-clause-found : goal.returns-in_default-clause-found
returns-in_default-clause-found t c =
    let g = c.args.inner.now in
    subst (Surveyed g.space.now g.level (box_of g) c.args.capacity c.args.points.now) (sym c.alone.ensures.found) (leaf_surveyed g c.args.capacity c.args.points.now c.in_default.ensures c.one.result c.one.ensures)

pub returns-in_default-clause-notes : goal.returns-in_default-clause-notes
returns-in_default-clause-notes t c =
    let g = c.args.inner.now in
    let ps = c.args.points.now in
    alone_noted g (leaves_in g.space.now g.level c.args.capacity ps) c.args.key c.alone.new.room c.requires (leaf_keeps g c.args.capacity ps c.in_default.ensures) (λ l. c.alone.ensures.noted (omega (arith, l, c.alone.auto.room)))

pub survey-lower-requires : goal.survey-lower-requires
survey-lower-requires t c =
    let halves = c.in-Some.ensures.1 in (
      omega (arith, c.decreases, half_falls c.args.inner.now c.in-Some.lower_half false halves.1 halves.0),
      omega (arith, c.requires, ap (λ (u : Space). u.keys) halves.1.0),
    )

pub survey-upper-requires : goal.survey-upper-requires
survey-upper-requires t c =
    let halves = c.in-Some.ensures.1 in (
      omega (arith, c.decreases, half_falls c.args.inner.now c.in-Some.upper_half true halves.2 halves.0),
      omega (arith, c.requires, ap (λ (u : Space). u.keys) halves.2.0),
    )

pub overflow_add-leaf_boxes : goal.overflow_add-leaf_boxes
overflow_add-leaf_boxes t c =
    let halves = halving c.args.inner.now c.in-Some.lower_half c.in-Some.upper_half c.args.capacity c.args.points.now c.part-cut.new.points c.survey-lower.new.points c.part-cut.result c.in-Some.ensures c.part-cut.ensures c.survey-lower.auto.points in
    omega (arith, leaf_boxes_fit halves c.survey-lower.result c.survey-upper.result c.survey-lower.ensures.found c.survey-upper.ensures.found)

pub returns-in-Some-halves_joined-clause-same : goal.returns-in-Some-halves_joined-clause-same
returns-in-Some-halves_joined-clause-same t c =
    let walked = c.survey-lower.new.points in
    let halves = halving c.args.inner.now c.in-Some.lower_half c.in-Some.upper_half c.args.capacity c.args.points.now c.part-cut.new.points walked c.part-cut.result c.in-Some.ensures c.part-cut.ensures c.survey-lower.auto.points in
    subst (IsPermutation c.args.points.now) (sym (parts_back c.part-cut.new.points walked c.part-cut.result c.part-cut.ensures.within c.survey-lower.auto.points c.survey-upper.new.points))
    (both_shuffled halves walked c.survey-upper.new.points c.survey-lower.ensures.same c.survey-upper.ensures.same)

pub returns-in-Some-halves_joined-clause-found : goal.returns-in-Some-halves_joined-clause-found
returns-in-Some-halves_joined-clause-found t c =
    let g = c.args.inner.now in
    let halves = halving g c.in-Some.lower_half c.in-Some.upper_half c.args.capacity c.args.points.now c.part-cut.new.points c.survey-lower.new.points c.part-cut.result c.in-Some.ensures c.part-cut.ensures c.survey-lower.auto.points in
    subst (Surveyed g.space.now g.level (box_of g) c.args.capacity c.args.points.now) (sym c.alone-in-Some-halves_joined.ensures.found)
    (surveyed_shut halves c.survey-lower.result c.survey-upper.result c.survey-lower.ensures.found c.survey-upper.ensures.found (Some c.in-Some-halves_joined.scales) c.in-Some-halves_joined.ensures refl)

pub returns-in-Some-halves_joined-clause-notes : goal.returns-in-Some-halves_joined-clause-notes
returns-in-Some-halves_joined-clause-notes t c =
    let g = c.args.inner.now in
    let halves = halving g c.in-Some.lower_half c.in-Some.upper_half c.args.capacity c.args.points.now c.part-cut.new.points c.survey-lower.new.points c.part-cut.result c.in-Some.ensures c.part-cut.ensures c.survey-lower.auto.points in
    alone_noted g (leaves_in g.space.now g.level c.args.capacity c.args.points.now) c.args.key c.alone-in-Some-halves_joined.new.room c.requires
    (keeps_all halves c.survey-lower.result c.survey-upper.result c.survey-lower.ensures.found c.survey-upper.ensures.found (Some c.in-Some-halves_joined.scales) c.in-Some-halves_joined.ensures)
    (λ l. c.alone-in-Some-halves_joined.ensures.noted (omega (arith, l, c.alone-in-Some-halves_joined.auto.room)))

pub overflow_add-result : goal.overflow_add-result
overflow_add-result t c =
    let halves = halving c.args.inner.now c.in-Some.lower_half c.in-Some.upper_half c.args.capacity c.args.points.now c.part-cut.new.points c.survey-lower.new.points c.part-cut.result c.in-Some.ensures c.part-cut.ensures c.survey-lower.auto.points in
    omega (arith, directory_boxes_fit halves c.survey-lower.result c.survey-upper.result c.survey-lower.ensures.found c.survey-upper.ensures.found None c.in_default-halves_joined.ensures refl)

pub returns-clause-same : goal.returns-clause-same
returns-clause-same t c =
    let walked = c.survey-lower.new.points in
    let halves = halving c.args.inner.now c.in-Some.lower_half c.in-Some.upper_half c.args.capacity c.args.points.now c.part-cut.new.points walked c.part-cut.result c.in-Some.ensures c.part-cut.ensures c.survey-lower.auto.points in
    subst (IsPermutation c.args.points.now) (sym (parts_back c.part-cut.new.points walked c.part-cut.result c.part-cut.ensures.within c.survey-lower.auto.points c.survey-upper.new.points))
    (both_shuffled halves walked c.survey-upper.new.points c.survey-lower.ensures.same c.survey-upper.ensures.same)

pub returns-clause-found : goal.returns-clause-found
returns-clause-found t c =
    let halves = halving c.args.inner.now c.in-Some.lower_half c.in-Some.upper_half c.args.capacity c.args.points.now c.part-cut.new.points c.survey-lower.new.points c.part-cut.result c.in-Some.ensures c.part-cut.ensures c.survey-lower.auto.points in
    surveyed_open halves c.survey-lower.result c.survey-upper.result c.survey-lower.ensures.found c.survey-upper.ensures.found None c.in_default-halves_joined.ensures refl

pub returns-clause-notes : goal.returns-clause-notes
returns-clause-notes t c =
    let g = c.args.inner.now in
    let ps = c.args.points.now in
    let n = c.min-noted.result in
    let r1 = c.survey-lower.new.room in
    let r2 = c.survey-upper.new.room in
    let halves = halving g c.in-Some.lower_half c.in-Some.upper_half c.args.capacity ps c.part-cut.new.points c.survey-lower.new.points c.part-cut.result c.in-Some.ensures c.part-cut.ensures c.survey-lower.auto.points in
    let long : length r2 ≡ length r1 - n = omega (arith, c.survey-upper.auto.room, length-take (length r1 - n) (drop n r1), length-drop n r1) in
    subst (Noted g.space.now g.level (box_of g) (leaves_in g.space.now g.level c.args.capacity ps) c.args.key) (sym (room_back r1 r2 n))
    (notes_open halves c.survey-lower.result c.survey-upper.result c.survey-lower.ensures.found c.survey-upper.ensures.found None c.in_default-halves_joined.ensures c.args.key c.requires c.args.room.now r1 r2
    c.survey-lower.ensures.notes c.survey-upper.ensures.notes n c.min-noted.ensures long refl)
