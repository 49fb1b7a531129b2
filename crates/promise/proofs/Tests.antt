-- Points and ranges can be told.
use Rattle.std.proofs.Common.{ℕ, zero, suc, ◌^◌, ◌<◌, ◌≤◌, ◌⊎◌, List, length, get_or, sym, subst, inl, inr, arith}
use Rattle.std.proofs.lemmas.Bool.{cases_lt, cases_eq}
use Rattle.boxes.specs.Points.{Point}
use Rattle.boxes.specs.Ranges.{IsRange}

tell_below : (P : ℕ → Type 0) → ((i : ℕ) → P i ⊎ (P i → ⊥)) → (k : ℕ) → ((i : ℕ) → i < k → P i) ⊎ (((i : ℕ) → i < k → P i) → ⊥)
tell_below P d zero = inl (λ i l. absurd (omega arith))
tell_below P d (suc k) = elim (tell_below P d k) [
  | inl a ↦ elim (d k) [
    | inl p ↦ inl (λ i l. elim (cases_eq i k) [ inl e ↦ subst P (sym e) p | inr n ↦ a i (omega arith) ])
    | inr n ↦ inr (λ w. n (w k (omega arith)))
  ]
  | inr n ↦ inr (λ w. n (λ i l. w i (omega arith)))
]

pub tell_point : (ws ps : List ℕ) → Point ws ps ⊎ (Point ws ps → ⊥)
tell_point ws ps = elim (cases_eq (length ps) (length ws)) [
  | inl e ↦ elim (tell_below (λ i. get_or ps i 0 < 2 ^ get_or ws i 0) (λ i. elim (cases_lt (get_or ps i 0) (2 ^ get_or ws i 0)) [ inl a ↦ inl a | inr b ↦ inr (λ a. omega arith) ]) (length ws))
      [ inl w ↦ inl (record { long = e; inside = w }) | inr n ↦ inr (λ p. n p.inside) ]
  | inr n ↦ inr (λ p. n p.long)
]

-- in key i the lowest value is not above the highest, and that is inside the width
abbrev Upright : List ℕ → List ℕ → List ℕ → ℕ → Type 0
Upright ws ls hs i = (get_or ls i 0 ≤ get_or hs i 0) × (get_or hs i 0 < 2 ^ get_or ws i 0)

tell_key : (ws ls hs : List ℕ) (i : ℕ) → Upright ws ls hs i ⊎ (Upright ws ls hs i → ⊥)
tell_key ws ls hs i = elim (cases_lt (get_or hs i 0) (get_or ls i 0)) [
  | inl a ↦ inr (λ u. omega (arith, u.0))
  | inr a ↦ elim (cases_lt (get_or hs i 0) (2 ^ get_or ws i 0)) [ inl b ↦ inl (a, b) | inr b ↦ inr (λ u. omega (arith, u.1)) ]
]

pub tell_range : (ws ls hs : List ℕ) → IsRange ws ls hs ⊎ (IsRange ws ls hs → ⊥)
tell_range ws ls hs = elim (cases_eq (length ls) (length ws)) [
  | inl a ↦ elim (cases_eq (length hs) (length ws)) [
    | inl b ↦ elim (tell_below (Upright ws ls hs) (tell_key ws ls hs) (length ws)) [ inl w ↦ inl (a, b, w) | inr n ↦ inr (λ r. n r.2) ]
    | inr n ↦ inr (λ r. n r.1)
  ]
  | inr n ↦ inr (λ r. n r.0)
]
