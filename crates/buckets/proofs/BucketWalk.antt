-- The records of a bucket page, one by one: each valid, and the first with its keys.
use Rattle.std.proofs.Common.{◌≡◌, ℕ, ◌<◌, ◌≤◌, Bool, true, false, List, length, Some, None, Option, Decides, MatchBool, sym, refl, ap, ◌∙◌, subst, inl, inr, zero-add, arith}
use Rattle.std.specs.List.{range_with_len, AllWithin, HoldsAt}
use Rattle.std.proofs.lemmas.List.FromFn.{length-range_with_len, get_or-range_with_len}
use Rattle.std.proofs.lemmas.Bool.{cases_order, false≢true}
use Rattle.kinds.specs.Meaning.{Meaning}
use Rattle.buckets.specs.BucketRules.{RecordsValid, FirstRight, count_of}
use Rattle.buckets.specs.Firsts.{FirstWith}

-- there is one first place
pub one_first : (P : ℕ → Type 0) (n i : ℕ) (r : Option ℕ) → FirstWith P n (Some i) → FirstWith P n r → r ≡ Some i
one_first P n i None f none = absurd (none i f.0 f.1)
one_first P n i (Some j) f h =
    elim (cases_order i j) [
      | inl same ↦ ap Some (sym same)
      | inr (inl lt) ↦ absurd (h.2 i lt f.1)
      | inr (inr gt) ↦ absurd (f.2 j gt h.1)
    ]

-- what a test of all numbers below n has told
pub all_in_range : (P : ℕ → Type 0) (n : ℕ) (r : Bool)
    → MatchBool r (AllWithin P (range_with_len 0 n) 0 (length (range_with_len 0 n))) ((k : ℕ) × (k < length (range_with_len 0 n)) × HoldsAt (λ i. P i → ⊥) (range_with_len 0 n) k)
    → Decides r ((k : ℕ) → k < n → P k)
all_in_range P n true h = (λ e k lt. subst P (get_or-range_with_len 0 n k 0 lt ∙ zero-add k) (h k 0 (omega arith) (omega (arith, length-range_with_len 0 n))), λ all. refl)
all_in_range P n false h =
    let lt : h.0 < n = omega (arith, h.1, length-range_with_len 0 n) in
    (λ e. absurd (false≢true e), λ all. absurd (h.2 0 (subst P (sym (get_or-range_with_len 0 n h.0 0 lt ∙ zero-add h.0)) (all h.0 lt))))

module _ (m : Meaning) (Right : List ℕ → Type 0) (page : List ℕ) where
  pub valid_from_firsts : ((i : ℕ) → i < count_of page → FirstRight m Right page i) → RecordsValid m Right page
  valid_from_firsts first = record {
    valid = λ i h. let f = first i h in (f.0, f.2.1, f.1);
    apart = λ i j lt h e. let f = first j h in f.2.2 i lt (e ∙ f.2.1);
  }

  pub firsts_from_valid : RecordsValid m Right page → count_of page ≤ m.capacity → (i : ℕ) → i < count_of page → FirstRight m Right page i
  firsts_from_valid r few i h =
      let v = r.valid i h in
      (v.0, v.2, (omega arith, v.1, λ k lt e. r.apart k i lt h (e ∙ sym v.1)))
