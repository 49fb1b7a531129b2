-- Two lists, each in another order, put together.
use Rattle.std.proofs.Common.{List, [], ◌∷◌, ◌++◌, refl, append-nil, arith}
use Rattle.std.specs.List.Sorted.{IsPermutation}
use Rattle.std.proofs.lemmas.List.Sorted.{IsPermutation-refl, IsPermutation-trans, IsPermutation-cons, IsPermutation-swap}

-- the first element goes behind others
behind : {A : Type 0} (x : A) (ys xs : List A) → IsPermutation (x ∷ (ys ++ xs)) (ys ++ (x ∷ xs))
behind x [] xs = IsPermutation-refl (x ∷ xs)
behind x (y ∷ ys) xs =
    IsPermutation-trans (x ∷ (y ∷ (ys ++ xs))) (y ∷ (x ∷ (ys ++ xs))) (y ∷ (ys ++ (x ∷ xs)))
    (IsPermutation-swap (x ∷ (y ∷ (ys ++ xs))) (y ∷ (x ∷ (ys ++ xs))) 0 1 (omega arith) (omega arith) refl)
    (IsPermutation-cons y (x ∷ (ys ++ xs)) (ys ++ (x ∷ xs)) (behind x ys xs))

flipped : {A : Type 0} (xs ys : List A) → IsPermutation (xs ++ ys) (ys ++ xs)
flipped [] ys = rw (append-nil ys) (IsPermutation-refl ys)
flipped (x ∷ xs) ys = IsPermutation-trans (x ∷ (xs ++ ys)) (x ∷ (ys ++ xs)) (ys ++ (x ∷ xs)) (IsPermutation-cons x (xs ++ ys) (ys ++ xs) (flipped xs ys)) (behind x ys xs)

after : {A : Type 0} (us xs ys : List A) → IsPermutation xs ys → IsPermutation (us ++ xs) (us ++ ys)
after [] xs ys h = h
after (u ∷ us) xs ys h = IsPermutation-cons u (us ++ xs) (us ++ ys) (after us xs ys h)

pub shuffled_append : {A : Type 0} (xs us ys vs : List A) → IsPermutation xs us → IsPermutation ys vs → IsPermutation (xs ++ ys) (us ++ vs)
shuffled_append xs us ys vs h k =
    IsPermutation-trans (xs ++ ys) (xs ++ vs) (us ++ vs) (after xs ys vs k)
    (IsPermutation-trans (xs ++ vs) (vs ++ xs) (us ++ vs) (flipped xs vs)
    (IsPermutation-trans (vs ++ xs) (vs ++ us) (us ++ vs) (after vs xs us h) (flipped vs us)))
