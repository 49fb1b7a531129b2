-- Bits of bytes, and how many pages are in use.
use Rattle.std.proofs.Common.{◌≡◌, ℕ, zero, suc, ◌+◌, ◌/◌, ◌%◌, ◌^◌, ◌<◌, ◌≤◌, Bool, true, false, cond, not, ◌&&◌, eqb, List, length, take, get_or, sym, refl, ap, ◌∙◌, ⊎_elim, zero-add, arith}
use Rattle.std.specs.List.{count_by, filter, range_with_len}
use Rattle.std.proofs.lemmas.List.{take_all}
use Rattle.std.proofs.lemmas.List.Filters.{length-filter_more}
use Rattle.std.proofs.lemmas.List.Sums.{length-filter, count_by-le-length}
use Rattle.std.proofs.lemmas.List.FromFn.{length-range_with_len, get_or-range_with_len}
use mathlib.Core.Bool.{beq}
use lib.Bits.{bit_xor}
use Rattle.std.proofs.lemmas.Nat.{xor_shr, xor_mod, mod_below, shr_le}
use Rattle.std.proofs.lemmas.Bool.{and_parts, eqb-true, ne_eqb, eq-eqb, cases_eq, false≢true}
use Rattle.buckets.specs.PageMaps.{bit, counted}

-- does the test hold of all numbers below n?
abbrev all_below : (ℕ → Bool) → ℕ → Bool
all_below p zero = true
all_below p (suc n) = p n && all_below p n

below_true : (p : ℕ → Bool) (n k : ℕ) → all_below p n ≡ true → k < n → p k ≡ true
below_true p zero k e h = absurd (omega arith)
below_true p (suc n) k e h =
    let both = and_parts (p n) (all_below p n) e in
    ⊎_elim (λ same. ap p same ∙ both.0) (λ ne. below_true p n k both.1 (omega arith)) (cases_eq k n)

-- bit k of 2 to the power of i, as a number
table : all_below (λ i. all_below (λ k. eqb (2 ^ i / 2 ^ k % 2) (cond (eqb i k) 1 0)) 8) 8 ≡ true
table = refl

weight_bit : (i k : ℕ) → i < 8 → k < 8 → 2 ^ i / 2 ^ k % 2 ≡ cond (eqb i k) 1 0
weight_bit i k hi hk =
    eqb-true (2 ^ i / 2 ^ k % 2) (cond (eqb i k) 1 0)
    (below_true (λ n. eqb (2 ^ i / 2 ^ n % 2) (cond (eqb i n) 1 0)) 8 k
    (below_true (λ a. all_below (λ n. eqb (2 ^ a / 2 ^ n % 2) (cond (eqb a n) 1 0)) 8) 8 i table hi) hk)

xor_bit : (x w k : ℕ) → bit_xor x w / 2 ^ k % 2 ≡ bit_xor (x / 2 ^ k % 2) (w / 2 ^ k % 2)
xor_bit x w k = ap (λ n. n % 2) (xor_shr x w k) ∙ xor_mod (x / 2 ^ k) (w / 2 ^ k) 1

-- what xor does to a bit
flipped : (a : ℕ) → a < 2 → eqb (bit_xor a 1) 1 ≡ not (eqb a 1)
flipped zero h = refl
flipped (suc zero) h = refl
flipped (suc (suc a)) h = absurd (omega arith)

kept : (a : ℕ) → a < 2 → bit_xor a 0 ≡ a
kept zero h = refl
kept (suc zero) h = refl
kept (suc (suc a)) h = absurd (omega arith)

pub xor_here : (x i : ℕ) → i < 8 → bit (bit_xor x (2 ^ i)) i ≡ not (bit x i)
xor_here x i h =
    let w : 2 ^ i / 2 ^ i % 2 ≡ 1 = weight_bit i i h h ∙ ap (λ t. cond t 1 0) (eq-eqb i i refl) in
    let small : x / 2 ^ i % 2 < 2 = mod_below (x / 2 ^ i) 2 (omega arith) in
    ap (λ n. eqb n 1) (xor_bit x (2 ^ i) i ∙ ap (λ n. bit_xor (x / 2 ^ i % 2) n) w) ∙ flipped (x / 2 ^ i % 2) small

pub xor_other : (x i k : ℕ) → i < 8 → k < 8 → (k ≡ i → ⊥) → bit (bit_xor x (2 ^ i)) k ≡ bit x k
xor_other x i k hi hk ne =
    let w : 2 ^ i / 2 ^ k % 2 ≡ 0 = weight_bit i k hi hk ∙ ap (λ t. cond t 1 0) (ne_eqb i k (λ e. ne (sym e))) in
    let small : x / 2 ^ k % 2 < 2 = mod_below (x / 2 ^ k) 2 (omega arith) in
    ap (λ n. eqb n 1) (xor_bit x (2 ^ i) k ∙ ap (λ n. bit_xor (x / 2 ^ k % 2) n) w ∙ kept (x / 2 ^ k % 2) small)

-- the bits of a byte that is zero
pub no_bit : (b i : ℕ) → b ≡ 0 → bit b i ≡ false
no_bit b i e =
    let z : 0 / 2 ^ i ≡ 0 = omega (arith, shr_le 0 i) in
    ap (λ n. bit n i) e ∙ ap (λ n. eqb (n % 2) 1) z

-- a test that is not as told is so when turned over
pub differs : (a t : Bool) → beq a t ≡ false → not a ≡ t
differs true true e = absurd (false≢true (sym e))
differs true false e = refl
differs false true e = refl
differs false false e = absurd (false≢true (sym e))

-- how many of the first i of n pages are in use
counted_taken : (f : ℕ → Bool) (n i : ℕ) → i ≤ n → length (filter f (take i (range_with_len 0 n))) ≡ counted i f
unfolding counted
counted_taken f n zero h = refl
counted_taken f n (suc i) h =
    let pages = range_with_len 0 n in
    let lt : i < n = omega arith in
    let more : i + 1 ≡ suc i = omega arith in
    let page : get_or pages i 0 ≡ i = get_or-range_with_len 0 n i 0 lt ∙ zero-add i in
    ap (λ k. length (filter f (take k pages))) (sym more)
    ∙ length-filter_more f pages i 0 (omega (arith, length-range_with_len 0 n))
    ∙ ap (λ k. length (filter f (take i pages)) + cond (f k) 1 0) page
    ∙ ap (λ k. k + cond (f i) 1 0) (counted_taken f n i (omega arith))

-- a one for each page in use, of the pages below n
pub pages_counted : (f : ℕ → Bool) (n : ℕ) → count_by f (range_with_len 0 n) ≡ counted n f
pages_counted f n =
    let pages = range_with_len 0 n in
    sym (length-filter f pages)
    ∙ ap (λ (js : List ℕ). length (filter f js)) (sym (take_all n pages (omega (arith, length-range_with_len 0 n))))
    ∙ counted_taken f n n (omega arith)

pub pages_fit : (f : ℕ → Bool) (n : ℕ) → n < 18446744073709551616 → count_by f (range_with_len 0 n) < 18446744073709551616
pages_fit f n few = omega (arith, few, count_by-le-length f (range_with_len 0 n), length-range_with_len 0 n)
