-- What `all` answers over two lists, place by place.
use Rattle.std.proofs.Common.{◌≡◌, ℕ, ◌<◌, ◌↔◌, IsTrue, Bool, true, false, List, length, get_or, MatchBool, refl, ap, ◌∙◌, subst, zero-add, arith}
use Rattle.std.specs.List.{AllWithin, HoldsAt, enumerate_from, zip}
use Rattle.std.proofs.lemmas.List.FromFn.{get_or-enumerate_from, length-enumerate_from}
use Rattle.std.proofs.lemmas.Slice.Zip.{length-zip, get_or-zip}
use Rattle.std.proofs.lemmas.Bool.{false≢true}

module _ (P : ℕ → ℕ → ℕ → Type 0) (ks vs : List ℕ) where
  abbrev items : List (ℕ × (ℕ × ℕ))
  items = enumerate_from 0 (zip ks vs)

  long : length items ≡ length (zip ks vs)
  long = length-enumerate_from 0 (zip ks vs)

  at : (Q : ℕ → ℕ → ℕ → Type 0) (i : ℕ) → i < length items → Q (get_or items i (0, (0, 0))).0 (get_or items i (0, (0, 0))).1.0 (get_or items i (0, (0, 0))).1.1 → Q i (get_or ks i 0) (get_or vs i 0)
  at Q i h q =
      let e = get_or-enumerate_from 0 (zip ks vs) i (0, (0, 0)) (omega (arith, long)) ∙ ap (λ n. (n, get_or (zip ks vs) i (0, 0))) (zero-add i)
      ∙ ap (λ p. (i, p)) (get_or-zip ks vs i (0, 0) (omega (arith, long, length-zip ks vs)) (omega (arith, long, length-zip ks vs))) in
      subst (λ (p : ℕ × (ℕ × ℕ)). Q p.0 p.1.0 p.1.1) e q

  -- it is true exactly where the numbers of each place pass
  pub each_passes : (r : Bool) → MatchBool r (AllWithin (λ (p : ℕ × (ℕ × ℕ)). P p.0 p.1.0 p.1.1) items 0 (length items)) ((k : ℕ) × (k < length items) × HoldsAt (λ (p : ℕ × (ℕ × ℕ)). P p.0 p.1.0 p.1.1 → ⊥) items k)
      → IsTrue r ↔ ((i : ℕ) → i < length ks → i < length vs → P i (get_or ks i 0) (get_or vs i 0))
  each_passes true a = (λ _ i h k. let l : i < length items = omega (arith, long, length-zip ks vs) in at P i l (a i (0, (0, 0)) (omega arith) l), λ _. refl)
  each_passes false a = (
    λ e. absurd (false≢true e),
    λ w. absurd (at (λ i x y. P i x y → ⊥) a.0 a.1 (a.2 (0, (0, 0))) (w a.0 (omega (arith, a.1, long, length-zip ks vs)) (omega (arith, a.1, long, length-zip ks vs)))),
  )
