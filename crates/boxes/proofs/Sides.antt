-- Points put by their halves, one after another.
use Rattle.std.proofs.Common.{◌≡◌, ℕ, ◌+◌, ◌<◌, ◌≤◌, true, false, List, length, get_or, sym, ap, ◌∙◌, inl, inr, arith}
use Rattle.std.specs.List.Sorted.{IsPermutation}
use Rattle.std.proofs.lemmas.List.{get_or_default}
use Rattle.std.proofs.lemmas.Bool.{cases_eq}
use Rattle.boxes.specs.declared.keys.Keys.{Keys}
use Rattle.boxes.specs.declared.space.Space.{Space}
use Rattle.boxes.specs.Parts.{side}

-- the first i points stand by their halves, those of the lower first
abbrev pub Standing : Space → ℕ → List Keys → ℕ → List Keys → ℕ → Type 0
Standing s l ps i qs lower = IsPermutation ps qs × (lower ≤ i) × ((j : ℕ) (d : Keys) → j < lower → side s l (get_or qs j d) ≡ false)
    × ((j : ℕ) (d : Keys) → lower ≤ j → j < i → side s l (get_or qs j d) ≡ true)

module _ (s : Space) (l : ℕ) (qs : List Keys) (lower i : ℕ) (p : Keys) (h : i < length qs) (e : p ≡ get_or qs i p) where
  here : (d : Keys) → get_or qs i d ≡ p
  here d = get_or_default qs i d p h ∙ sym e

  module _ (le : lower ≤ i) (low : (j : ℕ) (d : Keys) → j < lower → side s l (get_or qs j d) ≡ false) (high : (j : ℕ) (d : Keys) → lower ≤ j → j < i → side s l (get_or qs j d) ≡ true) where
    -- a point of the upper half stays
    pub upper_more : side s l p ≡ true → (j : ℕ) (d : Keys) → lower ≤ j → j < i + 1 → side s l (get_or qs j d) ≡ true
    upper_more t j d a b = elim (cases_eq j i) [
      | inl q ↦ ap (side s l) (ap (λ n. get_or qs n d) q ∙ here d) ∙ t
      | inr ne ↦ high j d a (omega arith)
    ]

    -- a point of the lower half changes places with the first of the upper
    module _ (ys : List Keys) (to : (d : Keys) → get_or ys lower d ≡ get_or qs i d) (back : (d : Keys) → get_or ys i d ≡ get_or qs lower d) (off : (k : ℕ) (d : Keys) → (k ≡ lower → ⊥) → (k ≡ i → ⊥) → get_or ys k d ≡ get_or qs k d) where
      pub lower_swapped : side s l p ≡ false → (j : ℕ) (d : Keys) → j < lower + 1 → side s l (get_or ys j d) ≡ false
      lower_swapped t j d a = elim (cases_eq j lower) [
        | inl q ↦ ap (side s l) (ap (λ n. get_or ys n d) q ∙ to d ∙ here d) ∙ t
        | inr ne ↦ ap (side s l) (off j d ne (λ q. omega arith)) ∙ low j d (omega arith)
      ]

      pub upper_swapped : (j : ℕ) (d : Keys) → lower + 1 ≤ j → j < i + 1 → side s l (get_or ys j d) ≡ true
      upper_swapped j d a b = elim (cases_eq j i) [
        | inl q ↦ ap (side s l) (ap (λ n. get_or ys n d) q ∙ back d) ∙ high lower d (omega arith) (omega arith)
        | inr ne ↦ ap (side s l) (off j d (λ q. omega arith) ne) ∙ high j d (omega arith) (omega arith)
      ]
