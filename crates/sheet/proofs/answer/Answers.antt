use Rattle.std.proofs.Common.{◌≡◌, ℕ, ◌+◌, List, [], ◌++◌, map, length, get_or, take, drop, vec_items, vec_len, string_bytes, sym, ap, ◌∙◌, subst, ap₂, inl, inr, arith, rules}
use Rattle.std.proofs.lemmas.Result.{IfOk-weaker}
use Rattle.boxes.specs.declared.keys.Keys.{Keys}
use Rattle.boxes.specs.Figures.{figures, Points}
use Rattle.boxes.specs.KeyLists.{keys_of}
use Rattle.boxes.specs.Spaces.{widths_of}
use Rattle.sheet.specs.declared.verdict.Verdict.TheVariants.{NoPoint}
use Rattle.sheet.specs.Answers.{Answered}
use Rattle.sheet.specs.Lines.{lines}
use Rattle.sheet.specs.Printed.{headless_text, rows_text, points_of, figures_text}
use Rattle.sheet.specs.Rows.{Heads, Becomes, Judged}
use Rattle.sheet.proofs.Lining.{head_line}
use Rattle.sheet.proofs.Listing.{kept_points}
use Rattle.sheet.proofs.Sameness.{one_answer}
use Rattle.sheet.proofs.answer.Goals as goal

pub returns-in_default : goal.returns-in_default
returns-in_default c =
    let text = c.args.text.now in
    let first : get_or (lines text) 0 [] ≡ take c.until-end.result text = (head_line text c.until-end.result c.until-end.ensures).0 in
    let headless : (t : List ℕ) → t ≡ headless_text → Answered text t = λ t e. inl ((λ n ws h. c.in_default.ensures n ws (subst (λ us. Heads us n ws) first h)), e) in
    record {
      answered = IfOk-weaker c.headless_text.result (λ t. string_bytes t ≡ headless_text) (λ t. Answered text (string_bytes t)) (λ t e. headless (string_bytes t) e) c.headless_text.ensures;
      only = IfOk-weaker c.headless_text.result (λ t. string_bytes t ≡ headless_text) (λ t. (out : List ℕ) → Answered text out → out ≡ string_bytes t) (λ t e out a. one_answer text (string_bytes t) out (headless (string_bytes t) e) a) c.headless_text.ensures;
    }

pub figures_of-requires : goal.figures_of-requires
figures_of-requires c =
    let s = c.in-Some.header.space in
    let ws = widths_of s in
    let rows = lines (drop (c.until-end.result + 1) c.args.text.now) in
    let vs = vec_items c.in_ok-verdicts.verdicts in
    let judged = c.in_ok-verdicts.ensures in
    let kept = kept_points ws rows 0 vs (λ i h. subst (λ j. Becomes ws rows j (get_or vs i NoPoint)) (omega arith) (judged.1 i (omega (arith, judged.0)))) in
    subst (Points s) (sym (c.as_mut_slice.ensures.value ∙ c.in_ok-points.ensures ∙ ap points_of c.as_slice-2.ensures.value)) kept

pub returns : goal.returns
returns c =
    let text = c.args.text.now in
    let end = c.until-end.result in
    let h = c.in-Some.header in
    let ws = widths_of h.space in
    let vs = vec_items c.in_ok-verdicts.verdicts in
    let ps = points_of vs in
    let line = head_line text end c.until-end.ensures in
    let first : get_or (lines text) 0 [] ≡ take end text = line.0 in
    let points : vec_items c.in_ok-points.points ≡ ps = c.in_ok-points.ensures ∙ ap points_of c.as_slice-2.ensures.value in
    let many : vec_len c.in_ok-points.points ≡ length (vec_items c.in_ok-points.points) = search rules in
    let count : c.len-count.result ≡ length ps = c.len-count.ensures ∙ many ∙ ap length points in
    let measured = c.in_ok-figures.ensures ∙ ap (λ (us : List Keys). figures ws h.capacity (map keys_of us)) (c.as_mut_slice.ensures.value ∙ points) in
    let answered : Answered text (string_bytes c.push_str.new.self) = inr (record {
      capacity = h.capacity;
      widths = ws;
      headed = subst (λ us. Heads us h.capacity ws) (sym first) c.in-Some.ensures;
      verdicts = vs;
      judged = subst (λ (rows : List (List ℕ)). Judged ws rows vs) (sym line.1) c.in_ok-verdicts.ensures;
      printed = c.in_ok-push_str.ensures.bytes ∙ ap₂ (λ (us zs : List ℕ). us ++ zs) (c.in_ok-out.ensures ∙ ap (rows_text 2) c.as_slice.ensures.value)
          (c.as_str.ensures.value ∙ c.in_ok-last.ensures ∙ ap₂ figures_text count measured);
    }) in
    record { answered = answered; only = λ out a. one_answer text (string_bytes c.push_str.new.self) out answered a }
