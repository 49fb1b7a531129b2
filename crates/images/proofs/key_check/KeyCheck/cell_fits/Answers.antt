-- The test of the key, on the image.
use Rattle.std.proofs.Common.{◌≡◌, ℕ, suc, ◌+◌, ◌<◌, cond, ltb, List, [], length, get_or, drop, refl, ap, ◌∙◌, arith, rules}
use Rattle.images.specs.Cells.{digit, stride}
use Rattle.images.specs.Directory.{intervals}
use Rattle.images.specs.Loops.{key_ok}
use Rattle.images.specs.Memory.{scales_in}
use Rattle.images.proofs.Digits.{stride_suc}
use Rattle.images.proofs.Fitting.{neighbour_below, decided}
use Rattle.images.proofs.Memory.{keys_in}
use Rattle.images.proofs.key_check.KeyCheck.cell_fits.Goals as goal

-- the neighbour, from the numbers that the code has of it
next_is : (es : List (List ℕ)) (i m step j next : ℕ) (scale : List ℕ) → i < length es → step ≡ intervals (drop (i + 1) es) → j ≡ digit es i m → scale ≡ get_or es i []
    → next ≡ cond (ltb j (length scale)) (m + step) m → next ≡ cond (ltb (digit es i m) (length (get_or es i []))) (m + stride es i) m
next_is es i m step j next scale l es₁ ej ec en =
    let more : i + 1 ≡ suc i = omega arith in
    let st : step ≡ stride es i = es₁ ∙ ap (λ n. intervals (drop n es)) more ∙ stride_suc es i l in
    en ∙ ap (λ x. cond (ltb x (length scale)) (m + step) m) ej
    ∙ ap (λ (us : List ℕ). cond (ltb (digit es i m) (length us)) (m + step) m) ec
    ∙ ap (λ x. cond (ltb (digit es i m) (length (get_or es i []))) (m + x) m) st

pub bounds-self-next : goal.bounds-self-next
bounds-self-next g c =
    let k = c.args.self.now in
    let d = k.image.now in
    let i = k.key in
    let m = c.args.m in
    let l : i < length (scales_in d) = omega (arith, keys_in d, k.key_in) in
    let j = c.digit-j.ensures c.requires in
    let e = next_is (scales_in d) i m c.cells_from.result c.digit-j.result c.next_cell-next.result c.scale-scale.result.now l c.cells_from.ensures.product j c.scale-scale.ensures c.next_cell-next.ensures in
    omega (arith, neighbour_below k.inner.now d k.same_keys i m k.key_in c.requires c.next_cell-next.result e, d.small)

pub span-requires-2 : goal.span-requires-2
span-requires-2 g c =
    let k = c.args.self.now in
    let d = k.image.now in
    let i = k.key in
    let m = c.args.m in
    let l : i < length (scales_in d) = omega (arith, keys_in d, k.key_in) in
    let j = c.digit-j.ensures c.requires in
    let e = next_is (scales_in d) i m c.cells_from.result c.digit-j.result c.next_cell-next.result c.scale-scale.result.now l c.cells_from.ensures.product j c.scale-scale.ensures c.next_cell-next.ensures in
    (search rules, omega (arith, neighbour_below k.inner.now d k.same_keys i m k.key_in c.requires c.next_cell-next.result e, d.small))

pub returns : goal.returns
returns g c =
    let k = c.args.self.now in
    let d = k.image.now in
    let i = k.key in
    let m = c.args.m in
    let l : i < length (scales_in d) = omega (arith, keys_in d, k.key_in) in
    let j = c.digit-j.ensures c.requires in
    let e = next_is (scales_in d) i m c.cells_from.result c.digit-j.result c.next_cell-next.result c.scale-scale.result.now l c.cells_from.ensures.product j c.scale-scale.ensures c.next_cell-next.ensures in
    let own = get_or k.inner.now.low i 0 in
    let top = c.in-Some.top in
    let s = c.span.result in
    let s' = c.span-2.result in
    let a = c.are_alike-alike.result in
    let fits = c.key_fits.ensures ∙ ap (λ x. key_ok c.scale-scale.result.now own top x s s' a) j
    ∙ ap (λ (us : List ℕ). key_ok us own top (digit (scales_in d) i m) s s' a) c.scale-scale.ensures in
    decided k.inner.now d k.same_keys i m k.key_in c.requires own top s s' c.next_cell-next.result a c.key_fits.result
    refl c.in-Some.ensures.1 c.span.ensures.span e c.span-2.ensures.span c.are_alike-alike.ensures fits
