use Rattle.std.proofs.Common.{◌≡◌, eqb, [], length, get_or, sym, ap, ◌∙◌, subst, inl, inr, arith, rules}
use Rattle.std.proofs.lemmas.List.{get_or_past, length_push}
use Rattle.std.proofs.lemmas.Bool.{cases_lt}
use Rattle.std.proofs.lemmas.Iterator.Consumers.{YieldsList-at}
use Rattle.std.proofs.lemmas.Iterator.Splits.{YieldsList-from_slice_split}
use Rattle.numbers.specs.Numbers.{Writes}
use Rattle.numbers.specs.Words.{words}
use Rattle.numbers.proofs.Wording.{word_here, words_end, RowSoFar, row_more, row_full, collected, unwritten, one_reading}
use Rattle.numbers.proofs.row_of.Goals as goal
use Rattle.numbers.proofs.row_of.Goals.{then-count-lt8, else-count-lt8}

pub returns-in_err-number : goal.returns-in_err-number
returns-in_err-number c =
    let ws = words c.args.mark c.args.line.now in
    let j = length c.loop-word.yielded in
    let h = word_here c.loop-word.yielded _ c.loop-word.yielded_by _ _ c.in-Some.word c.in-Some.is c.next.ensures.steps
    (YieldsList-at c.into_iter-word-iterator.ensures.into_iter_gives (YieldsList-from_slice_split _ (λ b. eqb b c.args.mark) c.args.line.now c.split-word-items.ensures.rest c.split-word-items.ensures.done c.split-word-items.ensures.closure (λ x b q k. search rules))) in
    rw c.from_residual.ensures (λ ns w. c.in_err-number.ensures (get_or ns j 0) (subst (λ us. Writes us (get_or ns j 0)) (sym h.1) (unwritten ws j ns h.0 w.0 w.1)))

pub loop-word-preserved : goal.loop-word-preserved
loop-word-preserved c =
    let ws = words c.args.mark c.args.line.now in
    let inv = c.loop-word.invariant in
    let n = c.in_ok-number.number in
    let h = word_here c.loop-word.yielded _ c.loop-word.yielded_by _ _ c.in-Some.word c.in-Some.is c.next.ensures.steps
    (YieldsList-at c.into_iter-word-iterator.ensures.into_iter_gives (YieldsList-from_slice_split _ (λ b. eqb b c.args.mark) c.args.line.now c.split-word-items.ensures.rest c.split-word-items.ensures.done c.split-word-items.ensures.closure (λ x b q k. search rules))) in
    let same : c.in-Some.word.now ≡ get_or ws c.loop-word.count [] = h.1 ∙ ap (λ j. get_or ws j []) (sym inv.0) in
    let here = subst (λ us. Writes us n) same c.in_ok-number.ensures in
    let SoFar = RowSoFar c.loop-word.first ws c.loop-word.count n inv.1 here inv.2 inv.3 in
    let row : SoFar c.if-count-lt8.first = elim c.if-count-lt8.branch [
      | then-count-lt8 w ↦ subst SoFar (sym w.first-is) (row_more c.loop-word.first ws c.loop-word.count n inv.1 here inv.2 inv.3 w.if-count-lt8.true)
      | else-count-lt8 w ↦ subst SoFar (sym w.first-is) (row_full c.loop-word.first ws c.loop-word.count n inv.1 here inv.2 inv.3 (λ l. omega (arith, w.if-count-lt8.false)))
    ] in
    (omega (arith, inv.0, length_push c.loop-word.yielded c.in-Some.word), row.0, row.1, row.2)

pub returns : goal.returns
returns c =
    let ws = words c.args.mark c.args.line.now in
    let inv = c.loop-word.invariant in
    let all = words_end c.loop-word.yielded _ c.loop-word.yielded_by _ _ c.in-None.is c.next.ensures.steps
    (YieldsList-at c.into_iter-word-iterator.ensures.into_iter_gives (YieldsList-from_slice_split _ (λ b. eqb b c.args.mark) c.args.line.now c.split-word-items.ensures.rest c.split-word-items.ensures.done c.split-word-items.ensures.closure (λ x b q k. search rules))) in
    let count : c.loop-word.count ≡ length ws = inv.0 ∙ all in
    let r = collected 8 ws (λ j. get_or c.loop-word.first j 0) (λ j h. inv.2 j (omega arith)) in (
      r.0,
      (r.1, r.2),
      (λ ms w. one_reading ms r.0 (sym w.0 ∙ r.1) w.1 r.2),
      count ∙ sym r.3,
      λ j h. elim (cases_lt j (length ws)) [ inl l ↦ r.4 j l h | inr g ↦ inv.3 j (omega arith) ∙ sym (get_or_past r.0 j 0 (omega (arith, r.3))) ],
    )
