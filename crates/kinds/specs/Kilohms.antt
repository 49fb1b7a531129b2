-- The kilohms of a record of kind I are below 2 to the power of 20.
use Rattle.std.specs.Prelude.{◌≡◌, ℕ, zero, suc, ◌*◌, ◌^◌, ◌<◌, ◌≤◌, true, ◌&&◌, ◌||◌, ◌==◌, nat_le}
use Rattle.std.proofs.Common.{inl, inr, arith, lit≤}
use Rattle.std.proofs.lemmas.Nat.{mul-le}
use Rattle.std.proofs.lemmas.Bool.{cond_both, and_parts, leb-true, or_cases, both_ways}
use Rattle.kinds.specs.Kinds.{is_over_range, is_measured, kilohms}

ten_small : (e : ℕ) → e ≤ 3 → 10 ^ e ≤ 1000
ten_small zero h = lit≤ tt
ten_small (suc zero) h = lit≤ tt
ten_small (suc (suc zero)) h = lit≤ tt
ten_small (suc (suc (suc zero))) h = lit≤ tt
ten_small (suc (suc (suc (suc e)))) h = absurd (omega arith)

measured_small : (d e : ℕ) → is_measured d e ≡ true → d * 10 ^ e ≤ 999 * 1000
measured_small d e t =
    let p = and_parts (nat_le e 3 && nat_le d 999) (e == 0 || nat_le 100 d) t in
    let q = and_parts (nat_le e 3) (nat_le d 999) p.0 in
    mul-le d (10 ^ e) 999 1000 (leb-true d 999 q.1) (ten_small e (leb-true e 3 q.0))

pub kilohms_small : (d e : ℕ) → (is_over_range d e || is_measured d e) ≡ true → kilohms d e < 2 ^ 20
kilohms_small d e t =
    cond_both (is_over_range d e) 1048575 (d * 10 ^ e) (λ n. n < 2 ^ 20)
    (λ o. omega arith)
    (λ o. elim (or_cases (is_over_range d e) (is_measured d e) t) [ inl p ↦ absurd (both_ways (is_over_range d e) o p) | inr m ↦ omega (arith, measured_small d e m) ])
