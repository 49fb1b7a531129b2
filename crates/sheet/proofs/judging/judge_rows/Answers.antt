use Rattle.std.proofs.Common.{◌≡◌, List, length, drop, vec_items, sym, ap, ◌∙◌, subst, rules}
use Rattle.std.specs.List.Sorted.{IsPermutation}
use Rattle.std.proofs.lemmas.List.{take_at}
use Rattle.boxes.specs.Spaces.{widths_of}
use Rattle.sheet.specs.declared.verdict.Verdict.{Verdict}
use Rattle.sheet.specs.Lines.{lines}
use Rattle.sheet.specs.Readings.{Reading, readings_of, InRows, Marked}
use Rattle.sheet.specs.Rows.{Judged}
use Rattle.sheet.proofs.Repeats.{in_rows, judged}
use Rattle.sheet.proofs.judging.judge_rows.Goals as goal

pub mark_repeats-requires : goal.mark_repeats-requires
mark_repeats-requires c =
    let rows = lines (drop c.args.from c.args.text.now) in
    let vs = vec_items c.in_ok-verdicts.verdicts in
    let ss = vec_items c.sort_unstable.new.self in
    let mixed = subst (λ (zs : List Reading). IsPermutation zs ss) (c.in_ok-readings.ensures ∙ ap (readings_of 0) c.as_slice.ensures.value) c.sort_unstable.ensures.permutation in
    let up = c.sort_unstable.ensures.sorted in
    let inside = in_rows c.args.space.now rows vs ss c.in_ok-verdicts.ensures mixed up in
    subst (λ (us : List Verdict). InRows (length us) c.as_slice-2.result.now) (sym c.as_mut_slice.ensures.value) (subst (InRows (length vs)) (sym c.as_slice-2.ensures.value) inside)

pub returns : goal.returns
returns c =
    let s = c.args.space.now in
    let rows = lines (drop c.args.from c.args.text.now) in
    let vs = vec_items c.in_ok-verdicts.verdicts in
    let ss = vec_items c.sort_unstable.new.self in
    let after = c.mark_repeats.new.verdicts in
    let mixed = subst (λ (zs : List Reading). IsPermutation zs ss) (c.in_ok-readings.ensures ∙ ap (readings_of 0) c.as_slice.ensures.value) c.sort_unstable.ensures.permutation in
    let up = c.sort_unstable.ensures.sorted in
    let marked = subst (λ (us : List Verdict). Marked (length ss) ss us after) c.as_mut_slice.ensures.value (subst (λ (zs : List Reading). Marked (length zs) zs c.as_mut_slice.result.now after) c.as_slice-2.ensures.value c.mark_repeats.ensures) in
    let whole : length after ≡ c.in_ok-verdicts.verdicts.len = search rules in
    subst (Judged (widths_of s) rows) (sym (take_at after (drop (length after) c.in_ok-verdicts.verdicts.items) c.in_ok-verdicts.verdicts.len whole))
    (judged s rows vs ss c.in_ok-verdicts.ensures mixed up after marked)
