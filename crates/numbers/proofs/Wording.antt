-- The words of a text, one after another.
use Rattle.std.proofs.Common.{◌≡◌, ℕ, zero, suc, ◌+◌, ◌-◌, ◌<◌, ◌≤◌, ◌≢◌, List, [], ◌∷◌, map, length, get_or, drop, set, decimal, Some, None, Option, Bor, sym, refl, ap, ◌∙◌, subst, ap₂, inl, inr, arith}
use Rattle.std.specs.List.{AllByRecursion}
use Rattle.std.proofs.lemmas.Fmt.{decimal_injective}
use Rattle.std.proofs.ByRecursion.{All-get_or}
use Rattle.std.specs.Iterator.{Yields}
use Rattle.std.proofs.lemmas.Iterator.{YieldsList}
use Rattle.std.proofs.lemmas.Iterator.Consumers.{YieldsList-turn, YieldsList-end}
use Rattle.std.proofs.lemmas.List.{get_or_default, drop-drop, get_or-drop, length-drop, get_or-map, get_or-set_same, get_or-set_other, length-map, length-set}
use Rattle.std.proofs.lemmas.Bool.{cases_eq}
use Rattle.numbers.specs.Numbers.{Writes}

-- the word of a turn of a loop over the words, and the words after its end
module _ {S : Type 0} {steps : S → Option (Bor (List ℕ)) → S → Type 0} {s : S} {ws : List (List ℕ)} (xs : List (Bor (List ℕ))) (t : S) (y : Yields steps s xs t) where
  pub word_here : (r : Option (Bor (List ℕ))) (u : S) (x : Bor (List ℕ)) → r ≡ Some x → steps t r u → YieldsList steps (λ w. w.now) s ws → (length xs < length ws) × (x.now ≡ get_or ws (length xs) [])
  word_here r u x is on road =
      let h = YieldsList-turn road xs t y r u x is on in
      (h.0, h.1 ∙ get_or_default ws (length xs) x.now [] h.0)

  pub words_end : (r : Option (Bor (List ℕ))) (u : S) → r ≡ None → steps t r u → YieldsList steps (λ w. w.now) s ws → length xs ≡ length ws
  words_end r u is on road = (YieldsList-end road xs t y r u is on).1

-- a list from place n on: its first element, and the rest
pub rest_first : {A : Type 0} (xs : List A) (n : ℕ) (y : A) (ys : List A) (d : A) → drop n xs ≡ y ∷ ys → (n < length xs) × (get_or xs n d ≡ y) × (drop (n + 1) xs ≡ ys)
rest_first xs n y ys d e =
    let h : n < length xs = omega (arith, length-drop n xs, ap length e) in (
      h,
      sym (ap (λ i. get_or xs i d) (omega arith)) ∙ sym (get_or-drop n xs 0 d) ∙ ap (λ us. get_or us 0 d) e,
      ap (λ i. drop i xs) (omega arith) ∙ sym (drop-drop 1 n xs) ∙ ap (drop 1) e,
    )

-- one number more in the row
module _ (f : List ℕ) (ws : List (List ℕ)) (count n : ℕ) (long : length f ≡ 8) (here : Writes (get_or ws count []) n)
    (inv : (j : ℕ) → j < count → (k : ℕ) × Writes (get_or ws j []) k × (j < 8 → get_or f j 0 ≡ k)) (zeros : (j : ℕ) → count ≤ j → get_or f j 0 ≡ 0) where
  abbrev pub RowSoFar : List ℕ → Type 0
  RowSoFar g = (length g ≡ 8) × ((j : ℕ) → j < count + 1 → (k : ℕ) × Writes (get_or ws j []) k × (j < 8 → get_or g j 0 ≡ k)) × ((j : ℕ) → count + 1 ≤ j → get_or g j 0 ≡ 0)

  pub row_more : count < 8 → RowSoFar (set f count n)
  row_more h = (
    length-set f count n ∙ long,
    λ j k. elim (cases_eq j count) [
      | inl e ↦ (n, subst (λ i. Writes (get_or ws i []) n) (sym e) here, λ _. let l : count < length f = omega arith in rw (e, get_or-set_same f count n 0 l) refl)
      | inr ne ↦ let r = inv j (omega arith) in (r.0, r.1, λ q. rw (get_or-set_other f count j n 0 ne) (r.2 q))
    ],
    λ j k. let ne : j ≢ count = omega arith in rw (get_or-set_other f count j n 0 ne) (zeros j (omega arith)),
  )

  pub row_full : (count < 8 → ⊥) → RowSoFar f
  row_full h = (
    long,
    λ j k. elim (cases_eq j count) [
      | inl e ↦ (n, subst (λ i. Writes (get_or ws i []) n) (sym e) here, λ q. absurd (h (omega arith)))
      | inr ne ↦ inv j (omega arith)
    ],
    λ j k. zeros j (omega arith),
  )

-- words that each write a number write a list of numbers
pub collected : (m : ℕ) (ws : List (List ℕ)) (f : ℕ → ℕ) → ((j : ℕ) → j < length ws → (n : ℕ) × Writes (get_or ws j []) n × (j < m → f j ≡ n))
    → (ns : List ℕ) × (ws ≡ map decimal ns) × AllByRecursion (λ n. n ≤ 4294967295) ns × (length ns ≡ length ws) × ((j : ℕ) → j < length ws → j < m → f j ≡ get_or ns j 0)
collected m [] f w = ([], refl, tt, refl, λ j h. absurd (omega arith))
collected m (u ∷ ws) f w =
    let first = w 0 (omega arith) in
    let rest = collected (m - 1) ws (λ j. f (suc j)) (λ j h. let r = w (suc j) (omega arith) in (r.0, r.1, λ l. r.2 (omega arith))) in (
      first.0 ∷ rest.0,
      ap₂ (λ (v : List ℕ) (vs : List (List ℕ)). v ∷ vs) first.1.1 rest.1,
      (first.1.0, rest.2),
      ap suc rest.3,
      placed first.0 rest.0 first.2 rest.4,
    )
  where
    placed : (n : ℕ) (ns : List ℕ) → (0 < m → f 0 ≡ n) → ((j : ℕ) → j < length ws → j < m - 1 → f (suc j) ≡ get_or ns j 0) → (j : ℕ) → j < length (u ∷ ws) → j < m → f j ≡ get_or (n ∷ ns) j 0
    placed n ns a b zero h l = a l
    placed n ns a b (suc j) h l = b j (omega arith) (omega arith)

-- a word that writes no number is none of a list of numbers
pub unwritten : (ws : List (List ℕ)) (j : ℕ) (ns : List ℕ) → j < length ws → ws ≡ map decimal ns → AllByRecursion (λ n. n ≤ 4294967295) ns → Writes (get_or ws j []) (get_or ns j 0)
unwritten ws j ns h e a =
    let l : j < length ns = omega (arith, ap length e, length-map ns decimal) in
    (All-get_or (λ n. n ≤ 4294967295) ns j 0 l a, ap (λ us. get_or us j []) e ∙ get_or-map decimal ns j 0 [] l)

-- a line writes one list of numbers
pub one_reading : (ms ns : List ℕ) → map decimal ms ≡ map decimal ns → AllByRecursion (λ n. n ≤ 4294967295) ms → AllByRecursion (λ n. n ≤ 4294967295) ns → ms ≡ ns
one_reading [] [] e a b = refl
one_reading [] (n ∷ ns) e a b = let z : ◌≡◌ {A = ℕ} 0 1 = cc in absurd (omega arith)
one_reading (m ∷ ms) [] e a b = let z : ◌≡◌ {A = ℕ} 0 1 = cc in absurd (omega arith)
one_reading (m ∷ ms) (n ∷ ns) e a b =
    let first : decimal m ≡ decimal n = cc in
    let rest : map decimal ms ≡ map decimal ns = cc in
    ap₂ (λ (x : ℕ) (xs : List ℕ). x ∷ xs) (decimal_injective m n (omega (arith, a.0)) (omega (arith, b.0)) first) (one_reading ms ns rest a.1 b.1)
