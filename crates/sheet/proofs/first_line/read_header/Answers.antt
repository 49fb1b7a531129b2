use Rattle.std.proofs.Common.{◌≡◌, ◌-◌, ◌∷◌, length, get_or, sym, ap, ◌∙◌, subst, ap₂, arith}
use Rattle.boxes.specs.Spaces.{widths_of}
use Rattle.boxes.specs.Widths.{Allowed}
use Rattle.numbers.specs.Numbers.{Written}
use Rattle.sheet.proofs.Heading.{headed, narrow, widths_are, first_and_rest}
use Rattle.sheet.proofs.first_line.read_header.Goals as goal
use Rattle.sheet.proofs.first_line.read_header.Goals.{then-row-lt2-via-then-row-lt2, then-row-lt2-via-else-row-lt2+then-row-gt5, then-row-lt2-via-else-row-lt2+else-row-gt5+then-row-eq0, then-row-lt2-via-else-row-lt2+else-row-gt5+else-row-eq0+then-row-gt169}

pub returns-in_err-row : goal.returns-in_err-row
returns-in_err-row c = rw c.from_residual.ensures (λ n ws h. c.in_err-row.ensures (n ∷ ws) h.0)

pub returns-then-row-lt2 : goal.returns-then-row-lt2
returns-then-row-lt2 c = λ n ws h.
    let r = c.in_ok-row.ensures in
    let q = headed c.args.line.now r.0 c.in_ok-row.row.first r.2 r.4 n ws h in
    elim c.then-row-lt2.branch [
      | then-row-lt2-via-then-row-lt2 w ↦ omega (arith, r.3, q.0, w.if-row-lt2.true)
      | then-row-lt2-via-else-row-lt2+then-row-gt5 w ↦ omega (arith, r.3, q.1, w.if-row-gt5.true)
      | then-row-lt2-via-else-row-lt2+else-row-gt5+then-row-eq0 w ↦ omega (arith, q.2, w.if-row-eq0.true)
      | then-row-lt2-via-else-row-lt2+else-row-gt5+else-row-eq0+then-row-gt169 w ↦ omega (arith, q.3, w.if-row-gt169.true)
    ]

pub returns-in_err-widths : goal.returns-in_err-widths
returns-in_err-widths c = rw c.from_residual-in_err-widths.ensures (λ n ws h.
    let r = c.in_ok-row.ensures in
    let w = c.in_err-widths.ensures in
    omega (arith, w.2, narrow c.args.line.now r.0 c.in_ok-row.row.first r.2 r.4 n ws h w.0 w.1))

pub returns-in_err-space : goal.returns-in_err-space
returns-in_err-space c = rw c.from_residual-in_err-space.ensures (λ n ws h.
    let r = c.in_ok-row.ensures in
    let w = c.in_ok-widths.ensures in
    let e = r.2 (n ∷ ws) h.0 in
    let same = widths_are c.args.line.now r.0 c.in_ok-row.row.first r.2 r.4 n ws c.in_ok-widths.widths (c.in_ok-row.row.count - 1) e (omega (arith, r.3, ap length e)) (omega (arith, c.if-row-gt5.false)) w.0 w.1 in
    c.in_err-space.ensures (subst Allowed (sym same) h.3))

pub returns : goal.returns
returns c =
    let r = c.in_ok-row.ensures in
    let w = c.in_ok-widths.ensures in
    let made = c.in_ok-space.ensures in
    let first = first_and_rest r.0 (omega (arith, r.3, c.if-row-lt2.false)) in
    let same = widths_are c.args.line.now r.0 c.in_ok-row.row.first r.2 r.4 first.0 first.1 c.in_ok-widths.widths (c.in_ok-row.row.count - 1) first.2 (omega (arith, r.3, ap length first.2)) (omega (arith, c.if-row-gt5.false)) w.0 w.1 in
    let capacity : first.0 ≡ get_or c.in_ok-row.row.first 0 0 = ap (λ us. get_or us 0 0) first.2 ∙ sym (r.4 0 (omega arith)) in
    let widths : first.1 ≡ widths_of c.in_ok-space.space = sym same ∙ sym made.1 in
    (subst (λ us. Written c.args.line.now us) (sym first.2 ∙ ap₂ (λ n us. n ∷ us) capacity widths) r.1, omega (arith, c.if-row-eq0.false), c.if-row-gt169.false, subst Allowed (sym made.1) made.0)
