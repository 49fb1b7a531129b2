-- Tallies of records by the boxes that they lie in.
use Rattle.std.proofs.Common.{◌≡◌, ℕ, zero, suc, ◌+◌, ◌<◌, ◌≤◌, Bool, true, false, cond, ◌&&◌, List, [], ◌∷◌, map, length, get_or, take, filter, sym, refl, ap, ◌∙◌, subst, add-one, arith}
use Rattle.std.proofs.lemmas.Bool.{true≢false}
use Rattle.boxes.specs.Cuts.{Path, half, around}
use Rattle.boxes.specs.Leaves.{tally, Distinct}
use Rattle.boxes.proofs.Cuts.{in_map}
use Rattle.boxes.proofs.Distinct.{in_kept}
use Rattle.images.proofs.Scales.{in_get_or}

-- one way counts in its box as often as in both halves of it
halves_one : (b p : Path) (t : Bool) → length b < length p → cond (around b p && t) 1 0 ≡ cond (around (half b false) p && t) 1 0 + cond (around (half b true) p && t) 1 0
halves_one [] [] t l = absurd (omega arith)
halves_one [] (true ∷ p) true l = refl
halves_one [] (true ∷ p) false l = refl
halves_one [] (false ∷ p) true l = refl
halves_one [] (false ∷ p) false l = refl
halves_one (x ∷ b) [] t l = absurd (omega arith)
halves_one (true ∷ b) (true ∷ p) t l = halves_one b p t (omega arith)
halves_one (true ∷ b) (false ∷ p) t l = refl
halves_one (false ∷ b) (true ∷ p) t l = refl
halves_one (false ∷ b) (false ∷ p) t l = halves_one b p t (omega arith)

one_more : (t : Bool) (n : ℕ) → cond t (suc n) n ≡ cond t 1 0 + n
one_more true n = omega arith
one_more false n = omega arith

-- so do many
pub tally_halves : {A : Type 0} (way : A → Path) (f : A → Bool) (b : Path) → ((x : A) → length b < length (way x)) → (xs : List A)
    → tally (λ x. around b (way x) && f x) xs ≡ tally (λ x. around (half b false) (way x) && f x) xs + tally (λ x. around (half b true) (way x) && f x) xs
tally_halves way f b l [] = refl
tally_halves way f b l (x ∷ xs) =
    let ih = tally_halves way f b l xs in
    let one = halves_one b (way x) (f x) (l x) in
    omega (
      arith,
      ih,
      one,
      one_more (around b (way x) && f x) (tally (λ y. around b (way y) && f y) xs),
      one_more (around (half b false) (way x) && f x) (tally (λ y. around (half b false) (way y) && f y) xs),
      one_more (around (half b true) (way x) && f x) (tally (λ y. around (half b true) (way y) && f y) xs),
    )

-- elements that fail a weaker test can be left out
pub tally_kept : {A : Type 0} (f g : A → Bool) → ((x : A) → f x ≡ true → g x ≡ true) → (xs : List A) → tally f (filter g xs) ≡ tally f xs
tally_kept f g w [] = refl
tally_kept f g w (x ∷ xs) = let ih = tally_kept f g w xs in let k = w x in go (g x) (f x) refl refl ih
  where
    go : (s t : Bool) → g x ≡ s → f x ≡ t → tally f (filter g xs) ≡ tally f xs → tally f (filter g (x ∷ xs)) ≡ tally f (x ∷ xs)
    go true t e q ih = ap (λ s. tally f (cond s (x ∷ filter g xs) (filter g xs))) e ∙ ap (λ n. cond (f x) (suc n) n) ih
    go false true e q ih = absurd (true≢false (sym (w x q) ∙ e))
    go false false e q ih = ap (λ s. tally f (cond s (x ∷ filter g xs) (filter g xs))) e ∙ ih ∙ sym (ap (λ t. cond t (suc (tally f xs)) (tally f xs)) q)

pub tally_length : {A : Type 0} (f : A → Bool) (xs : List A) → length (filter f xs) ≡ tally f xs
tally_length f [] = refl
tally_length f (x ∷ xs) = go (f x) refl (tally_length f xs)
  where
    go : (t : Bool) → f x ≡ t → length (filter f xs) ≡ tally f xs → length (filter f (x ∷ xs)) ≡ tally f (x ∷ xs)
    go t e ih = ap length_of e ∙ num t ih ∙ sym (ap (λ s. cond s (suc (tally f xs)) (tally f xs)) e)
      where
        length_of : Bool → ℕ
        length_of s = length (cond s (x ∷ filter f xs) (filter f xs))

        num : (s : Bool) → length (filter f xs) ≡ tally f xs → length_of s ≡ cond s (suc (tally f xs)) (tally f xs)
        num true k = ap suc k
        num false k = k

pub tally_le : {A : Type 0} (f : A → Bool) (xs : List A) → tally f xs ≤ length xs
tally_le f [] = omega arith
tally_le f (x ∷ xs) = let ih = tally_le f xs in grind arith

-- one element more
front_more : {A : Type 0} (f : A → Bool) (d : A) (xs : List A) (i : ℕ) → i < length xs → tally f (take (suc i) xs) ≡ tally f (take i xs) + cond (f (get_or xs i d)) 1 0
front_more f d [] i l = absurd (omega arith)
front_more f d (x ∷ xs) zero l = omega (arith, one_more (f x) 0)
front_more f d (x ∷ xs) (suc i) l =
    let ih = front_more f d xs i (omega arith) in
    omega (arith, ih, one_more (f x) (tally f (take (suc i) xs)), one_more (f x) (tally f (take i xs)))

pub tally_more : {A : Type 0} (f : A → Bool) (d : A) (xs : List A) (i : ℕ) → i < length xs → tally f (take (i + 1) xs) ≡ tally f (take i xs) + cond (f (get_or xs i d)) 1 0
tally_more f d xs i l = ap (λ k. tally f (take k xs)) (add-one i) ∙ front_more f d xs i l

pub distinct_kept : {A : Type 0} (f : A → Bool) (xs : List A) → Distinct xs → Distinct (filter f xs)
distinct_kept f [] d = tt
distinct_kept {A} f (x ∷ xs) d = go (f x) refl (distinct_kept f xs d.1)
  where
    go : (t : Bool) → f x ≡ t → Distinct (filter f xs) → Distinct (filter f (x ∷ xs))
    go true e k = subst (λ t. Distinct (cond t (x ∷ filter f xs) (filter f xs))) (sym e) ((λ i. d.0 (in_kept f x xs i).0), k)
    go false e k = subst (λ t. Distinct (cond t (x ∷ filter f xs) (filter f xs))) (sym e) k

pub distinct_unmapped : {A B : Type 0} (g : A → B) (us : List A) → Distinct (map g us) → Distinct us
distinct_unmapped g [] d = tt
distinct_unmapped g (u ∷ us) d = ((λ i. d.0 (in_map g u us i)), distinct_unmapped g us d.1)

-- elements at different places that differ under g are distinct
pub distinct_apart : {A B : Type 0} (g : A → B) (d : A) (xs : List A) → ((i j : ℕ) → i < length xs → j < length xs → g (get_or xs i d) ≡ g (get_or xs j d) → i ≡ j) → Distinct xs
distinct_apart g d [] w = tt
distinct_apart g d (x ∷ xs) w = (
  (λ i. let k = in_get_or x xs d i in absurd (omega (arith, w 0 (suc k.0) (omega arith) (omega (arith, k.1)) (ap g k.2)))),
  distinct_apart g d xs (λ i j a b e. omega (arith, w (suc i) (suc j) (omega arith) (omega arith) e)),
)

pub tally_all : {A : Type 0} (xs : List A) → tally (λ _. true) xs ≡ length xs
tally_all [] = refl
tally_all (x ∷ xs) = ap suc (tally_all xs)
