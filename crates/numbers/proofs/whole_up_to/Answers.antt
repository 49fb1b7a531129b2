use Rattle.std.proofs.Common.{◌≡◌, ◌<◌, length, get_or, sym, ◌∙◌, arith}
use Rattle.std.proofs.lemmas.Bool.{true≢false}
use Rattle.numbers.proofs.Decimal.{written, writes}
use Rattle.numbers.proofs.whole_up_to.Goals as goal
use Rattle.numbers.proofs.whole_up_to.Goals.{then-text-eq0-via-then-text-eq0, then-text-eq0-via-else-text-eq0+then-text-gt10, then-text-eq0-via-else-text-eq0+else-text-gt10+then-has_leading_zero}

pub returns-then-text-eq0 : goal.returns-then-text-eq0
returns-then-text-eq0 c = λ n w.
    let t = written c.args.text.now n (omega (arith, w.0, c.ranges.greatest), w.1) in
    elim c.then-text-eq0.branch [
      | then-text-eq0-via-then-text-eq0 v ↦ omega (arith, v.if-text-eq0.true, t.some)
      | then-text-eq0-via-else-text-eq0+then-text-gt10 v ↦ omega (arith, v.if-text-gt10.true, t.few)
      | then-text-eq0-via-else-text-eq0+else-text-gt10+then-has_leading_zero v ↦ let q = v.has_leading_zero.ensures.0 v.if-has_leading_zero.true in omega (arith, t.plain q.1, q.0)
    ]

pub returns-in_err-number : goal.returns-in_err-number
returns-in_err-number c = rw c.from_residual.ensures (λ n w. true≢false (sym (written c.args.text.now n (omega (arith, w.0, c.ranges.greatest), w.1)).digits ∙ c.in_err-number.ensures))

pub returns-then-number-greatest : goal.returns-then-number-greatest
returns-then-number-greatest c = λ n w. omega (arith, (written c.args.text.now n (omega (arith, w.0, c.ranges.greatest), w.1)).value, c.in_ok-number.ensures.1, c.if-number-greatest.true, w.0)

pub returns : goal.returns
returns c =
    let bs = c.args.text.now in
    let some : 0 < length bs = omega (arith, c.if-text-eq0.false) in
    let plain : get_or bs 0 0 ≡ 48 → length bs ≡ 1 = λ e.
    let one : 1 < length bs → ⊥ = λ l. true≢false (sym (c.has_leading_zero.ensures.1 (l, e)) ∙ c.if-has_leading_zero.false) in
    omega arith in
    writes bs c.in_ok-number.number some plain c.in_ok-number.ensures.0 c.args.greatest c.in_ok-number.ensures.1 c.if-number-greatest.false (omega (arith, c.ranges.greatest))
