-- How many different numbers a rising list has, and lists with the same numbers.
use Rattle.std.proofs.Common.{◌≡◌, ℕ, zero, suc, ◌+◌, ◌<◌, ◌≤◌, min, Bool, true, false, not, cond, ◌==◌, List, [], ◌∷◌, ◌++◌, length, get_or, drop, filter, sym, refl, ap, ◌∙◌, subst, inl, inr, arith}
use Rattle.std.specs.List.{range_with_len, zip, AllByRecursion}
use Rattle.std.specs.List.Sorted.{IsPermutation, IsNonDecreasing}
use Rattle.std.proofs.lemmas.List.FromFn.{length-range_with_len, get_or-range_with_len}
use Rattle.std.proofs.ByRecursion.{all_shuffled}
use Rattle.std.proofs.lemmas.Bool.{eqb-false, ne_eqb}
use Rattle.std.proofs.lemmas.List.Sorted.{IsPermutation-sym}
use Rattle.boxes.specs.Cuts.{In}
use Rattle.boxes.specs.Directories.{distinct, member}
use Rattle.boxes.proofs.Cuts.{in_right}
use Rattle.boxes.proofs.Distinct.{pigeon, in_distinct, distinct_distinct, more_distinct}

-- what stands at a place of a list is in it
pub place_in : (ys : List ℕ) (j : ℕ) → j < length ys → In (get_or ys j 0) ys
place_in [] j h = absurd (omega arith)
place_in (y ∷ ys) zero h = inl refl
place_in (y ∷ ys) (suc j) h = inr (place_in ys j (omega arith))

-- lists with the same numbers have as many different ones
pub same_different : (us vs : List ℕ) → ((x : ℕ) → In x us → In x vs) → ((x : ℕ) → In x vs → In x us) → length (distinct us) ≡ length (distinct vs)
same_different us vs to back = omega (arith, more_distinct us vs to, more_distinct vs us back)

-- in a list that does not fall, a number is the last of its kind exactly where the next is another
abbrev pub differ : ℕ × ℕ → Bool
differ p = not (p.0 == p.1)

member_none : (x : ℕ) (ys : List ℕ) → ((i : ℕ) → i < length ys → x < get_or ys i 0) → member x ys ≡ false
member_none x [] h = refl
member_none x (y ∷ ys) h = let k = h 0 (omega arith) in rw (ne_eqb x y (λ e. omega arith)) (member_none x ys (λ i l. h (suc i) (omega arith)))

pub different_is : (x : ℕ) (xs : List ℕ) → IsNonDecreasing (x ∷ xs) → suc (length (filter differ (zip (x ∷ xs) xs))) ≡ length (distinct (x ∷ xs))
different_is x [] up = refl
different_is x (y ∷ ys) up = go (x == y) refl (different_is y ys (λ i j d h l. up (suc i) (suc j) d (omega arith) (omega arith)))
  where
    go : (t : Bool) → (x == y) ≡ t → suc (length (filter differ (zip (y ∷ ys) ys))) ≡ length (distinct (y ∷ ys))
        → suc (length (cond (not t) ((x, y) ∷ filter differ (zip (y ∷ ys) ys)) (filter differ (zip (y ∷ ys) ys)))) ≡ length (cond (cond t true (member x ys)) (distinct (y ∷ ys)) (x ∷ distinct (y ∷ ys)))
    go true e ih = ih
    go false e ih =
        let n = eqb-false x y e in
        let k : x ≤ y = up 0 1 0 (omega arith) (omega arith) in
        let after : (i : ℕ) → i < length ys → y ≤ get_or ys i 0 = λ i l. up 1 (suc (suc i)) 0 (omega arith) (omega arith) in
        rw (member_none x ys (λ i l. omega (arith, after i l))) (ap suc ih)

pub different_all : (xs : List ℕ) (n m : ℕ) → IsNonDecreasing xs → n ≡ length (filter differ (zip xs (drop 1 xs))) → m ≡ min 1 (length xs) → n + m ≡ length (distinct xs)
different_all [] n m up e f = omega arith
different_all (x ∷ xs) n m up e f = omega (arith, different_is x xs up)

-- the same numbers in another order
all_in : {A : Type 0} (P : A → Type 0) (x : A) (ys : List A) → AllByRecursion P ys → In x ys → P x
all_in P x [] a i = absurd i
all_in P x (y ∷ ys) a (inl e) = subst P (sym e) a.0
all_in P x (y ∷ ys) a (inr i) = all_in P x ys a.1 i

itself : {A : Type 0} (us ys : List A) → AllByRecursion (λ y. In y (us ++ ys)) ys
itself us [] = tt
itself us (y ∷ ys) = (in_right y us (y ∷ ys) (inl refl), subst (λ vs. AllByRecursion (λ z. In z vs) ys) (append_one us y ys) (itself (us ++ y ∷ []) ys))
  where
    append_one : {B : Type 0} (vs : List B) (z : B) (zs : List B) → (vs ++ z ∷ []) ++ zs ≡ vs ++ (z ∷ zs)
    append_one [] z zs = refl
    append_one (v ∷ vs) z zs = ap (λ ts. v ∷ ts) (append_one vs z zs)

pub in_shuffled : {A : Type 0} (xs ys : List A) → IsPermutation xs ys → (x : A) → In x ys → In x xs
in_shuffled xs ys h x i = all_in (λ y. In y xs) x ys (all_shuffled (λ y. In y xs) xs ys h (itself [] xs)) i

pub shuffled_in : {A : Type 0} (xs ys : List A) → IsPermutation xs ys → (x : A) → In x xs → In x ys
shuffled_in xs ys h x i = in_shuffled ys xs (IsPermutation-sym xs ys h) x i

-- numbers below m: at most m different ones
pub few_different : (xs : List ℕ) (m : ℕ) → ((x : ℕ) → In x xs → x < m) → length (distinct xs) ≤ m
few_different xs m w =
    omega (
      arith,
      length-range_with_len 0 m,
      pigeon (distinct xs) (range_with_len 0 m) (distinct_distinct xs) (λ x i. let h = w x (in_distinct x xs i) in subst (λ z. In z (range_with_len 0 m)) (get_or-range_with_len 0 m x 0 h ∙ omega arith) (place_in (range_with_len 0 m) x (omega (arith, length-range_with_len 0 m)))),
    )
