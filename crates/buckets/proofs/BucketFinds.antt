-- The first place with a property, by a search over the places, and a record found by its bytes and in the list of records.
use Rattle.std.proofs.Common.{◌≡◌, ℕ, ◌<◌, ◌≤◌, min, List, [], length, get_or, Some, None, Option, MatchOption, sym, ap, ◌∙◌, arith}
use Rattle.kinds.specs.Meaning.{Meaning, Lawful}
use Rattle.buckets.specs.Bucket.{BucketOf, record_at}
use Rattle.buckets.specs.BucketRules.{count_of}
use Rattle.buckets.specs.Firsts.{FirstWith}
use Rattle.buckets.proofs.BucketViews.{view}

-- what a search over the numbers below e has told, where P is known of those for which Q holds
pub first_in_range : (P Q : ℕ → Type 0) (n e : ℕ) (r : Option ℕ) → e ≡ n → ((k : ℕ) → k < n → Q k)
    → MatchOption r ((k : ℕ) → 0 ≤ k → k < e → Q k → P k → ⊥) (λ i. (0 ≤ i) × (i < e) × (Q i → P i) × ((k : ℕ) → 0 ≤ k → k < i → Q k → P k → ⊥))
    → FirstWith P n r
first_in_range P Q n e None same inside h = λ k lt. h k (omega arith) (omega arith) (inside k lt)
first_in_range P Q n e (Some i) same inside h =
    let lt : i < n = omega (arith, h.1) in
    (lt, h.2 (inside i lt), λ k below. h.3 k (omega arith) below (inside k (omega arith)))

module _ (m : Meaning) (law : Lawful m) (page ks : List ℕ) (level : ℕ) (rs : List (List ℕ)) (of : BucketOf m level rs page) where
  many : min (count_of page) m.capacity ≡ length rs
  many = let v = view m law level rs page of in omega (arith, v.count, v.few)

  same : (i : ℕ) → i < length rs → m.read (record_at m page i) ≡ m.read (get_or rs i [])
  same i h = ap m.read ((view m law level rs page of).placed i h)

  pub found_listed : (r : Option ℕ) → FirstWith (λ i. m.read (record_at m page i) ≡ Some ks) (min (count_of page) m.capacity) r
      → FirstWith (λ i. m.read (get_or rs i []) ≡ Some ks) (length rs) r
  found_listed None none = λ k h e. none k (omega (arith, many)) (same k h ∙ e)
  found_listed (Some i) (small, is, none) =
      let h : i < length rs = omega (arith, many) in
      (h, sym (same i h) ∙ is, λ k lt e. none k lt (same k (omega arith) ∙ e))
