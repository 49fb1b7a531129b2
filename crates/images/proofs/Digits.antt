-- The intervals of a cell by division.
use Rattle.std.proofs.Common.{◌≡◌, ℕ, zero, suc, ◌+◌, ◌*◌, ◌/◌, ◌%◌, ◌<◌, List, [], ◌∷◌, length, get_or, drop, sym, refl, ap, ◌∙◌, mul-le-mul_right, mod-lt, mod-eq_of_lt, arith}
use Rattle.std.proofs.lemmas.Nat.{mod-mul-add}
use Rattle.images.specs.Directory.{intervals}
use Rattle.images.specs.Cells.{digit, stride}
use Rattle.images.proofs.Places.{intervals_pos, digit_le}

-- a remainder of a multiple of x leaves the remainder of x
mod_of_mod : (m k x : ℕ) → 0 < x → (m % (k * x)) % x ≡ m % x
mod_of_mod m k x p =
    let I = k * x in
    let A = m / I in
    let r = m % I in
    let q = r / x in
    let whole : m ≡ A * (k * x) + r = omega arith in
    let part : r ≡ q * x + r % x = omega arith in
    let both : m ≡ (A * k + q) * x + r % x = omega (arith, whole, part) in
    sym (ap (λ n. n % x) both ∙ mod-mul-add (A * k + q) x (r % x) (mod-lt r p))

drop_times : (es : List (List ℕ)) (i : ℕ) → (k : ℕ) × (intervals es ≡ k * intervals (drop i es))
drop_times es zero = (1, omega arith)
drop_times [] (suc i) = (1, omega arith)
drop_times (e ∷ es) (suc i) =
    let r = drop_times es i in
    (suc (length e) * r.0, ap (λ n. suc (length e) * n) r.1 ∙ assoc (suc (length e)) r.0 (intervals (drop i es)))
  where
    assoc : (a b c : ℕ) → a * (b * c) ≡ (a * b) * c
    assoc a b c = omega arith

pub digit_by : (es : List (List ℕ)) (i m : ℕ) → i < length es → m < intervals es → (m % intervals (drop i es)) / intervals (drop (suc i) es) ≡ digit es i m
digit_by [] i m l h = absurd (omega arith)
digit_by (e ∷ es) zero m l h = ap (λ n. n / intervals es) (mod-eq_of_lt h)
digit_by (e ∷ es) (suc i) m l h =
    let I = intervals es in
    let x = intervals (drop i es) in
    let t = drop_times es i in
    let q : m % x ≡ (m % I) % x = sym (mod_of_mod m t.0 x (intervals_pos (drop i es))) ∙ ap (λ n. (m % n) % x) (sym t.1) in
    ap (λ n. n / intervals (drop (suc i) es)) q ∙ digit_by es i (m % I) (omega arith) (mod-lt m (intervals_pos es))

pub stride_suc : (es : List (List ℕ)) (i : ℕ) → i < length es → intervals (drop (suc i) es) ≡ stride es i
stride_suc [] i l = absurd (omega arith)
stride_suc (e ∷ es) zero l = refl
stride_suc (e ∷ es) (suc i) l = stride_suc es i (omega arith)

-- the upper neighbour is a cell
pub next_cell : (es : List (List ℕ)) (m i : ℕ) → m < intervals es → i < length es → digit es i m < length (get_or es i []) → m + stride es i < intervals es
next_cell [] m i h l d = absurd (omega arith)
next_cell (e ∷ es) m zero h l d =
    let p = intervals_pos es in
    omega (arith, mul-le-mul_right (intervals es) d, mod-lt m p)
next_cell (e ∷ es) m (suc i) h l d =
    let p = intervals_pos es in
    let r = next_cell es (m % intervals es) i (mod-lt m p) (omega arith) d in
    omega (arith, r, mul-le-mul_right (intervals es) (digit_le (e ∷ es) m 0 h (omega arith)))
