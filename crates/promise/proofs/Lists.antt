-- Members, tallies and the one record with given keys.
use Rattle.std.proofs.Common.{◌≡◌, ℕ, suc, ◌<◌, Bool, true, false, cond, not, eqb, List, [], ◌∷◌, filter, sym, refl, ap, ◌∙◌, subst, ap₂, inl, inr, arith}
use Rattle.std.proofs.lemmas.Bool.{both_ways, and_parts, and_from, eq-eqb, eqb-true, cases_lt, cond-true, cond-false}
use Rattle.boxes.specs.Cuts.{In}
use Rattle.boxes.specs.Leaves.{tally, Distinct, Same}
use Rattle.boxes.proofs.Cuts.{in_map}
use Rattle.kinds.specs.Meaning.{Meaning}
use Rattle.promise.specs.Determined.{keys_of, points}
use Rattle.promise.specs.Runs.{same_numbers, keyed}

pub same_self : (xs : List ℕ) → same_numbers xs xs ≡ true
same_self [] = refl
same_self (x ∷ xs) = and_from (eqb x x) (same_numbers xs xs) (eq-eqb x x refl) (same_self xs)

pub same_true : (xs ys : List ℕ) → same_numbers xs ys ≡ true → xs ≡ ys
same_true [] [] e = refl
same_true [] (y ∷ ys) e = absurd (both_ways false refl e)
same_true (x ∷ xs) [] e = absurd (both_ways false refl e)
same_true (x ∷ xs) (y ∷ ys) e =
    let q = and_parts (eqb x y) (same_numbers xs ys) e in
    ap₂ (λ (z : ℕ) (zs : List ℕ). z ∷ zs) (eqb-true x y q.0) (same_true xs ys q.1)

pub same_from : (xs ys : List ℕ) → xs ≡ ys → same_numbers xs ys ≡ true
same_from xs ys e = subst (λ zs. same_numbers xs zs ≡ true) e (same_self xs)

pub in_tally : {A : Type 0} (f : A → Bool) (x : A) (xs : List A) → In x xs → f x ≡ true → 0 < tally f xs
in_tally f x [] i e = absurd i
in_tally {A} f x (y ∷ ys) (inl p) e = let k : f y ≡ true = subst (λ (z : A). f z ≡ true) p e in grind arith
in_tally f x (y ∷ ys) (inr i) e = let ih = in_tally f x ys i e in grind arith

pub tally_in : {A : Type 0} (f : A → Bool) (xs : List A) → 0 < tally f xs → (x : A) × In x xs × (f x ≡ true)
tally_in f [] l = absurd (omega arith)
tally_in {A} f (y ∷ ys) l = go (f y) refl (tally_in f ys)
  where
    go : (t : Bool) → f y ≡ t → (0 < tally f ys → (x : A) × In x ys × (f x ≡ true)) → (x : A) × In x (y ∷ ys) × (f x ≡ true)
    go true e ih = (y, inl refl, e)
    go false e ih = let k : 0 < tally f ys = subst (λ n. 0 < n) (cond-false (f y) (suc (tally f ys)) (tally f ys) e) l in let r = ih k in (r.0, inr r.1, r.2)

pub kept_all : {A : Type 0} (f : A → Bool) (xs : List A) → tally f xs ≡ 0 → filter (λ x. not (f x)) xs ≡ xs
kept_all f [] e = refl
kept_all {A} f (x ∷ xs) e = go (f x) refl (kept_all f xs)
  where
    go : (t : Bool) → f x ≡ t → (tally f xs ≡ 0 → filter (λ z. not (f z)) xs ≡ xs) → filter (λ z. not (f z)) (x ∷ xs) ≡ x ∷ xs
    go true k ih = absurd (omega (arith, sym (cond-true (f x) (suc (tally f xs)) (tally f xs) k) ∙ e))
    go false k ih =
        let none : tally f xs ≡ 0 = sym (cond-false (f x) (suc (tally f xs)) (tally f xs) k) ∙ e in
        ap (λ t. cond (not t) (x ∷ filter (λ z. not (f z)) xs) (filter (λ z. not (f z)) xs)) k ∙ ap (λ (zs : List A). x ∷ zs) (ih none)

-- The record with these keys, taken out.
module _ (m : Meaning) (ks : List ℕ) where
  abbrev other : List ℕ → Bool
  other r = not (keyed m ks r)

  alone : (h : List ℕ) (hs : List (List ℕ)) → Distinct (points m (h ∷ hs)) → keyed m ks h ≡ true → tally (keyed m ks) hs ≡ 0
  alone h hs d e = elim (cases_lt 0 (tally (keyed m ks) hs)) [
    | inl l ↦
        let r = tally_in (keyed m ks) hs l in
        let p : keys_of m r.0 ≡ keys_of m h = sym (same_true ks (keys_of m r.0) r.2) ∙ same_true ks (keys_of m h) e in
        absurd (d.0 (subst (λ qs. In qs (points m hs)) p (in_map (keys_of m) r.0 hs r.1)))
    | inr l ↦ omega arith
  ]

  pub taken_out : (held : List (List ℕ)) → Distinct (points m held) → 0 < tally (keyed m ks) held
      → (x : List ℕ) × In x held × (keyed m ks x ≡ true) × Same held (x ∷ filter other held)
  taken_out [] d l = absurd (omega arith)
  taken_out (h ∷ hs) d l = go (keyed m ks h) refl (taken_out hs d.1)
    where
      go : (t : Bool) → keyed m ks h ≡ t → (0 < tally (keyed m ks) hs → (x : List ℕ) × In x hs × (keyed m ks x ≡ true) × Same hs (x ∷ filter other hs))
          → (x : List ℕ) × In x (h ∷ hs) × (keyed m ks x ≡ true) × Same (h ∷ hs) (x ∷ filter other (h ∷ hs))
      go true e ih =
          let rest : filter other (h ∷ hs) ≡ hs = ap (λ t. cond (not t) (h ∷ filter other hs) (filter other hs)) e ∙ kept_all (keyed m ks) hs (alone h hs d e) in
          (h, inl refl, e, λ g. ap (λ zs. tally g (h ∷ zs)) (sym rest))
      go false e ih =
          let rest : filter other (h ∷ hs) ≡ h ∷ filter other hs = ap (λ t. cond (not t) (h ∷ filter other hs) (filter other hs)) e in
          let r = ih (subst (λ n. 0 < n) (cond-false (keyed m ks h) (suc (tally (keyed m ks) hs)) (tally (keyed m ks) hs) e) l) in
          let s = r.3 in (
            r.0,
            inr r.1,
            r.2,
            λ g.
                let k = s g in
                let swap : tally g (h ∷ hs) ≡ tally g (r.0 ∷ (h ∷ filter other hs)) = grind arith in
                swap ∙ ap (λ zs. tally g (r.0 ∷ zs)) (sym rest),
          )
