-- How many pass a test: over lists that are put together, and over the same elements in another order.
use Rattle.std.proofs.Common.{◌≡◌, suc, ◌+◌, Bool, true, false, cond, List, [], ◌∷◌, ◌++◌, map, sum_by, sym, refl, ap, ◌∙◌, ap₂, arith}
use Rattle.std.specs.List.Sorted.{IsPermutation}
use Rattle.std.specs.List.{AllByRecursion}
use Rattle.std.proofs.lemmas.List.Sorted.{sum_by-IsPermutation}
use Rattle.std.proofs.lemmas.List.Sums.{sum_by-cons}
use Rattle.boxes.specs.Leaves.{tally, Same}

tally_sum : {A : Type 0} (f : A → Bool) (xs : List A) → tally f xs ≡ sum_by (λ x. cond (f x) 1 0) xs
tally_sum f [] = refl
tally_sum f (x ∷ xs) = go (f x) (tally_sum f xs) ∙ sym (sum_by-cons (λ y. cond (f y) 1 0) x xs)
  where
    go : (t : Bool) → tally f xs ≡ sum_by (λ y. cond (f y) 1 0) xs → cond t (suc (tally f xs)) (tally f xs) ≡ cond t 1 0 + sum_by (λ y. cond (f y) 1 0) xs
    go true ih = omega arith
    go false ih = omega arith

pub same_shuffled : {A : Type 0} (xs ys : List A) → IsPermutation xs ys → Same xs ys
same_shuffled xs ys h f = tally_sum f xs ∙ sym (sum_by-IsPermutation (λ x. cond (f x) 1 0) xs ys h) ∙ sym (tally_sum f ys)

pub tally_append : {A : Type 0} (f : A → Bool) (xs ys : List A) → tally f (xs ++ ys) ≡ tally f xs + tally f ys
tally_append f [] ys = omega arith
tally_append f (x ∷ xs) ys = go (f x) (tally_append f xs ys)
  where
    go : (t : Bool) → tally f (xs ++ ys) ≡ tally f xs + tally f ys → cond t (suc (tally f (xs ++ ys))) (tally f (xs ++ ys)) ≡ cond t (suc (tally f xs)) (tally f xs) + tally f ys
    go true ih = omega arith
    go false ih = ih

pub tally_map : {A B : Type 0} (f : B → Bool) (g : A → B) (xs : List A) → tally f (map g xs) ≡ tally (λ x. f (g x)) xs
tally_map f g [] = refl
tally_map f g (x ∷ xs) = ap (λ n. cond (f (g x)) (suc n) n) (tally_map f g xs)

-- tests that agree on the list
pub tally_agree : {A : Type 0} (f g : A → Bool) (xs : List A) → AllByRecursion (λ x. f x ≡ g x) xs → tally f xs ≡ tally g xs
tally_agree f g [] h = refl
tally_agree f g (x ∷ xs) h = ap₂ (λ t n. cond t (suc n) n) h.0 (tally_agree f g xs h.1)

pub tally_none : {A : Type 0} (f : A → Bool) (xs : List A) → AllByRecursion (λ x. f x ≡ false) xs → tally f xs ≡ 0
tally_none f [] h = refl
tally_none f (x ∷ xs) h = ap (λ t. cond t (suc (tally f xs)) (tally f xs)) h.0 ∙ tally_none f xs h.1
