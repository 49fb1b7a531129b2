-- A cell marks at most the end at which it begins.
use Rattle.std.proofs.Common.{◌≡◌, ℕ, ◌+◌, ◌-◌, ◌<◌, Bool, true, false, List, length, sym, ap, ◌∙◌, subst, arith, length-set, rules}
use lib.ListN.{length-replicate}
use Rattle.std.proofs.lemmas.Bool.{false≢true}
use Rattle.images.specs.Checking.{Begins}
use Rattle.images.specs.Directory.{intervals}
use Rattle.images.specs.Memory.{scales_in}
use Rattle.images.proofs.Marks.{Marked, marked_none, marked_same, marked_more}
use Rattle.images.proofs.Memory.{keys_in, scale_long, count_most}
use Rattle.images.proofs.Places.{digit_le}
use Rattle.images.proofs.key_check.KeyCheck.used_ends.Goals as goal
use Rattle.images.proofs.key_check.KeyCheck.used_ends.Goals.{then-interval-gt0+then-begins, else-interval-gt0, else-interval-gt0-via-then-interval-gt0+else-begins, else-interval-gt0-via-else-interval-gt0}

pub loop-m-init : goal.loop-m-init
loop-m-init g c = (length-replicate {A = Bool} g.row.ENDS false, marked_none c.args.self.now.inner.now c.args.self.now.image.now c.args.self.now.key g.row.ENDS)

pub begins-requires : goal.begins-requires
begins-requires g c =
    let d = c.args.self.now.image.now in
    let l : c.args.self.now.key < length (scales_in d) = omega (arith, keys_in d, c.args.self.now.key_in) in
    let m : c.loop-m.m < intervals (scales_in d) = omega (arith, c.cells_from-m-end.ensures.product, c.loop-m-test.true) in
    (search rules, (omega (arith, digit_le (scales_in d) c.loop-m.m c.args.self.now.key m l, c.digit-interval.ensures m), m))

pub bounds-used-interval : goal.bounds-used-interval
bounds-used-interval g c =
    let d = c.args.self.now.image.now in
    let l : c.args.self.now.key < length (scales_in d) = omega (arith, keys_in d, c.args.self.now.key_in) in
    let below = digit_le (scales_in d) c.loop-m.m c.args.self.now.key (omega (arith, c.cells_from-m-end.ensures.product, c.loop-m-test.true)) l in
    omega (arith, below, c.digit-interval.ensures (omega (arith, c.cells_from-m-end.ensures.product, c.loop-m-test.true)), scale_long d c.args.self.now.key c.args.self.now.key_in, count_most d c.args.self.now.key c.args.self.now.key_in)

pub loop-m-preserved : goal.loop-m-preserved
loop-m-preserved g c =
    let d = c.args.self.now.image.now in
    let b = c.args.self.now.inner.now in
    let i = c.args.self.now.key in
    let m = c.loop-m.m in
    let old = c.loop-m.used in
    let l : i < length (scales_in d) = omega (arith, keys_in d, c.args.self.now.key_in) in
    let below = digit_le (scales_in d) m i (omega (arith, c.cells_from-m-end.ensures.product, c.loop-m-test.true)) l in
    let k = c.digit-interval.result - 1 in
    let here = c.digit-interval.ensures (omega (arith, c.cells_from-m-end.ensures.product, c.loop-m-test.true)) in
    elim c.if-interval-gt0.branch [
      | then-interval-gt0+then-begins w ↦
          let e = w.used-is in
          let h : k < length old = omega (arith, below, here, scale_long d i c.args.self.now.key_in, count_most d i c.args.self.now.key_in, c.loop-m.invariant.0, w.if-interval-gt0.true) in (
            ap length e ∙ length-set old k true ∙ c.loop-m.invariant.0,
            subst (λ (us : List Bool). Marked b d i (m + 1) us) (sym e) (marked_more b d i m k old h (w.begins.ensures.0 w.if-begins.true) c.loop-m.invariant.1),
          )
      | else-interval-gt0 w ↦
          let none : (j : ℕ) → Begins b d i j m → ⊥ = λ j q. elim w.else-interval-gt0.branch [
            | else-interval-gt0-via-then-interval-gt0+else-begins v ↦
                let same : j ≡ k = omega (arith, here, q.0, v.if-interval-gt0.true) in
                false≢true (sym v.if-begins.false ∙ v.begins.ensures.1 (subst (λ z. Begins b d i z m) same q))
            | else-interval-gt0-via-else-interval-gt0 v ↦ omega (arith, here, q.0, v.if-interval-gt0.false)
          ] in (
            ap length w.used-is ∙ c.loop-m.invariant.0,
            subst (λ (us : List Bool). Marked b d i (m + 1) us) (sym w.used-is) (marked_same b d i m old c.loop-m.invariant.1 none),
          )
    ]
