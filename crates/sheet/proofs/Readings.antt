-- Readings: those of the rows, each row once, and their order.
use Rattle.std.proofs.Common.{◌≡◌, ℕ, zero, suc, ◌+◌, ◌<◌, ◌≤◌, Bool, false, cond, eqb, List, [], ◌∷◌, length, get_or, sum_by, Ordering, Less, Equal, Greater, sym, refl, ap, ◌∙◌, subst, inl, inr, true≢false, arith, ext_get_or}
use Rattle.std.specs.Cmp.Lexicographic.{slice_cmp, lists_total}
use Rattle.std.specs.Ordering.{is_lt, is_gt, ordering_reverse, ordering_then, nat_cmp}
use Rattle.std.specs.List.{ContainsAt, AllByRecursion}
use Rattle.std.specs.Cmp.{nat_cmp_total, nat_cmp_is}
use Rattle.std.proofs.ByRecursion.{has_append_right}
use Rattle.std.proofs.lemmas.Map.Lookups.{exact_bytes}
use Rattle.std.proofs.lemmas.List.Sums.{sum_by-cons}
use Rattle.std.proofs.lemmas.Bool.{cases_eq, cases_lt, eq-eqb, ne_eqb}
use Rattle.boxes.specs.declared.keys.Keys.{Keys}
use Rattle.boxes.specs.KeyLists.{keys_of}
use Rattle.sheet.specs.declared.verdict.Verdict.{Verdict}
use Rattle.sheet.specs.declared.verdict.Verdict.TheVariants.{Kept, NoPoint, Repeated}
use Rattle.sheet.specs.Readings.{Reading, four, readings_of}

-- four keys tell points of one space apart
pub four_at : (ks : List ℕ) (j : ℕ) → j < 4 → get_or (four ks) j 0 ≡ get_or ks j 0
four_at ks zero h = refl
four_at ks (suc zero) h = refl
four_at ks (suc (suc zero)) h = refl
four_at ks (suc (suc (suc zero))) h = refl
four_at ks (suc (suc (suc (suc j)))) h = absurd (omega arith)

pub four_apart : (ks js : List ℕ) → length ks ≡ length js → length ks ≤ 4 → four ks ≡ four js → ks ≡ js
four_apart ks js e l f = ext_get_or 0 ks js e (λ i h. sym (four_at ks i (omega arith)) ∙ ap (λ us. get_or us i 0) f ∙ four_at js i (omega arith))

-- readings of rows: each is of a row with its point
abbrev pub OfRow : (ℕ → Verdict) → ℕ → Reading → Type 0
OfRow f n s = (s.1 < n) × ((p : Keys) × (f s.1 ≡ Kept p) × (s.0 ≡ four (keys_of p)))

pub of_rows : (f : ℕ → Verdict) (m n : ℕ) (vs : List Verdict) → n + length vs ≤ m → ((i : ℕ) → i < length vs → f (n + i) ≡ get_or vs i NoPoint) → AllByRecursion (OfRow f m) (readings_of n vs)
of_rows f m n [] l h = tt
of_rows f m n (v ∷ vs) l h =
    go v (ap f (omega arith) ∙ h 0 (omega arith)) (of_rows f m (suc n) vs (omega arith) (λ i k. ap f (omega arith) ∙ h (suc i) (omega arith)))
  where
    go : (v : Verdict) → f n ≡ v → AllByRecursion (OfRow f m) (readings_of (suc n) vs) → AllByRecursion (OfRow f m) (readings_of n (v ∷ vs))
    go (Kept p) e rest = ((omega arith, (p, e, refl)), rest)
    go NoPoint e rest = rest
    go Repeated e rest = rest

-- and each row with a point has one
pub has_row : (n : ℕ) (vs : List Verdict) (i : ℕ) (p : Keys) → i < length vs → get_or vs i NoPoint ≡ Kept p → ContainsAt (readings_of n vs) (four (keys_of p), n + i)
has_row n [] i p l e = absurd (omega arith)
has_row n (v ∷ vs) zero p l e = subst (λ v. ContainsAt (readings_of n (v ∷ vs)) (four (keys_of p), n + 0)) (sym e) (0, omega arith, λ d. ap (λ j. (four (keys_of p), j)) (omega arith))
has_row n (v ∷ vs) (suc i) p l e =
    let rest = subst (λ j. ContainsAt (readings_of (suc n) vs) (four (keys_of p), j)) (omega arith) (has_row (suc n) vs i p (omega arith) e) in
    go v rest
  where
    go : (v : Verdict) → ContainsAt (readings_of (suc n) vs) (four (keys_of p), n + suc i) → ContainsAt (readings_of n (v ∷ vs)) (four (keys_of p), n + suc i)
    go (Kept q) h = has_append_right ((four (keys_of q), n) ∷ []) (readings_of (suc n) vs) (four (keys_of p), n + suc i) h
    go NoPoint h = h
    go Repeated h = h

-- and no more than one
abbrev pub of_row : ℕ → Reading → ℕ
of_row r s = cond (eqb s.1 r) 1 0

none_before : (n : ℕ) (vs : List Verdict) (r : ℕ) → r < n → sum_by (of_row r) (readings_of n vs) ≡ 0
none_before n [] r h = refl
none_before n (v ∷ vs) r h =
    let rest = none_before (suc n) vs r (omega arith) in
    go v rest
  where
    go : (v : Verdict) → sum_by (of_row r) (readings_of (suc n) vs) ≡ 0 → sum_by (of_row r) (readings_of n (v ∷ vs)) ≡ 0
    go (Kept p) e =
        let here : of_row r (four (keys_of p), n) ≡ 0 = ap (λ t. cond t 1 0) (ne_eqb n r (omega arith)) in
        omega (arith, sum_by-cons (of_row r) (four (keys_of p), n) (readings_of (suc n) vs))
    go NoPoint e = e
    go Repeated e = e

pub one_each : (n : ℕ) (vs : List Verdict) (r : ℕ) → sum_by (of_row r) (readings_of n vs) ≤ 1
one_each n [] r = omega arith
one_each n (v ∷ vs) r = go v (one_each (suc n) vs r)
  where
    go : (v : Verdict) → sum_by (of_row r) (readings_of (suc n) vs) ≤ 1 → sum_by (of_row r) (readings_of n (v ∷ vs)) ≤ 1
    go (Kept p) h = elim (cases_eq n r) [
      | inl e ↦
          let here : of_row r (four (keys_of p), n) ≡ 1 = ap (λ t. cond t 1 0) (eq-eqb n r e) in
          omega (arith, sum_by-cons (of_row r) (four (keys_of p), n) (readings_of (suc n) vs), none_before (suc n) vs r (omega arith))
      | inr ne ↦
          let here : of_row r (four (keys_of p), n) ≡ 0 = ap (λ t. cond t 1 0) (ne_eqb n r ne) in
          omega (arith, sum_by-cons (of_row r) (four (keys_of p), n) (readings_of (suc n) vs))
    ]
    go NoPoint h = h
    go Repeated h = h

at_least_one : (f : Reading → ℕ) (ss : List Reading) (a : ℕ) (d : Reading) → a < length ss → 1 ≤ f (get_or ss a d) → 1 ≤ sum_by f ss
at_least_one f [] a d l h = absurd (omega arith)
at_least_one f (s ∷ ss) zero d l h = omega (arith, sum_by-cons f s ss)
at_least_one f (s ∷ ss) (suc a) d l h = omega (arith, sum_by-cons f s ss, at_least_one f ss a d (omega arith) h)

pub at_least_two : (f : Reading → ℕ) (ss : List Reading) (a b : ℕ) (d : Reading) → a < b → b < length ss → 1 ≤ f (get_or ss a d) → 1 ≤ f (get_or ss b d) → 2 ≤ sum_by f ss
at_least_two f [] a b d m l h k = absurd (omega arith)
at_least_two f (s ∷ ss) a zero d m l h k = absurd (omega arith)
at_least_two f (s ∷ ss) zero (suc b) d m l h k = omega (arith, sum_by-cons f s ss, at_least_one f ss b d (omega arith) k)
at_least_two f (s ∷ ss) (suc a) (suc b) d m l h k = omega (arith, sum_by-cons f s ss, at_least_two f ss a b d (omega arith) (omega arith) h k)

-- the order of readings
abbrev pub less : Reading → Reading → Bool
less x y = is_lt (ordering_then ((slice_cmp nat_cmp) x.0 y.0) (nat_cmp x.1 y.1))

itself : (k : Ordering) → k ≡ ordering_reverse k → k ≡ Equal
itself Less e = absurd (true≢false (ap is_lt e))
itself Equal e = refl
itself Greater e = absurd (true≢false (ap is_gt e))

same_keys : (ks js : List ℕ) → ks ≡ js → slice_cmp nat_cmp ks js ≡ Equal
same_keys ks js e = subst (λ us. slice_cmp nat_cmp ks us ≡ Equal) e (itself (slice_cmp nat_cmp ks ks) ((lists_total nat_cmp_total).antisymm ks ks))

-- of equal keys, the later row is not before
pub rows_rise : (x y : Reading) → x.0 ≡ y.0 → less y x ≡ false → x.1 ≤ y.1
rows_rise x y e h = elim (cases_lt y.1 x.1) [
  | inl l ↦ absurd (true≢false (sym (ap (λ k. is_lt (ordering_then k (nat_cmp y.1 x.1))) (same_keys y.0 x.0 (sym e)) ∙ ap is_lt (sym (nat_cmp_is y.1 x.1 Less l))) ∙ h))
  | inr g ↦ g
]

-- between equal keys there are no others
pub squeezed : (x y z : Reading) → x.0 ≡ z.0 → less y x ≡ false → less z y ≡ false → y.0 ≡ z.0
squeezed x y z e h k = go (slice_cmp nat_cmp y.0 x.0) refl
  where
    go : (t : Ordering) → slice_cmp nat_cmp y.0 x.0 ≡ t → y.0 ≡ z.0
    go Less q = absurd (true≢false (sym (ap (λ t. is_lt (ordering_then t (nat_cmp y.1 x.1))) q) ∙ h))
    go Equal q = exact_bytes y.0 x.0 q ∙ e
    go Greater q =
        let back : slice_cmp nat_cmp z.0 y.0 ≡ Less = ap (λ us. slice_cmp nat_cmp us y.0) (sym e) ∙ (lists_total nat_cmp_total).antisymm x.0 y.0 ∙ ap ordering_reverse q in
        absurd (true≢false (sym (ap (λ t. is_lt (ordering_then t (nat_cmp z.1 y.1))) back) ∙ k))
