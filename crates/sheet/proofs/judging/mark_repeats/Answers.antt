use Rattle.std.proofs.Common.{length}
use Rattle.std.proofs.lemmas.List.{length_push}
use Rattle.std.proofs.lemmas.Slice.Zip.{zip_turn}
use Rattle.std.proofs.lemmas.Slice.Eq.{slice_eq-Decides}
use Rattle.std.proofs.lemmas.Bool.Decides.{Decides-eqb}
use Rattle.sheet.specs.Readings.{no_reading}
use Rattle.sheet.proofs.Repeats.{mark_behind}
use Rattle.sheet.proofs.judging.mark_repeats.Goals as goal

pub loop-before-preserved-then-eq : goal.loop-before-preserved-then-eq
loop-before-preserved-then-eq c =
    let ss = c.args.sorted.now in
    let rest = c.in-Some.later.now in
    let xs = c.loop-before.yielded in
    let turn = zip_turn ss rest xs c.into_iter-before-iterator.result c.loop-before.before-iterator c.next.new.self _ (cc) (cc) c.loop-before.yielded_by _ c.in-Some-2.is c.next.ensures.steps in
    mark_behind ss rest c.in-Some.field-0-0.now c.in-Some-2.before.now c.in-Some-2.reading.now c.args.verdicts.now c.loop-before.verdicts (length xs) _ c.loop-before.invariant c.in-Some.ensures.cases.0 turn.1 (turn.2 no_reading) (turn.3 no_reading)
    (length_push xs (c.in-Some-2.before, c.in-Some-2.reading)) c.requires ((slice_eq-Decides Decides-eqb _ _ _ c.eq.ensures).0 c.if-eq.true)
