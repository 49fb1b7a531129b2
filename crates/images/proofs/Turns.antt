-- One key's turn in a cell number.
use Rattle.std.proofs.Common.{◌≡◌, ℕ, zero, suc, ◌+◌, ◌*◌, ◌<◌, ◌≤◌, List, [], ◌∷◌, length, drop, sym, refl, ap, ◌∙◌, subst, ap₂, arith}
use Rattle.images.specs.Directory.{Rising, position, place_from, intervals}
use Rattle.images.specs.Parts.{parted, AllRising}
use Rattle.images.proofs.Places.{place_from_is, intervals_pos}

pub length_parted : (cs xs : List ℕ) → length (parted cs xs) ≡ length cs
length_parted [] xs = refl
length_parted (c ∷ cs) xs = ap suc (length_parted cs (drop c xs))

times : (n m : ℕ) → 0 < m → n ≤ n * m
times n zero h = absurd (omega arith)
times n (suc m) h = omega arith

pub number_most : (es : List (List ℕ)) (ks : List ℕ) (number : ℕ) → length ks ≡ length es → number ≤ place_from number es ks
number_most es ks number l = omega (arith, place_from_is es ks number l, times number (intervals es) (intervals_pos es))

-- the first key of several, with the ends us, is done
module _ (number : ℕ) (es : List (List ℕ)) (us : List ℕ) (more : List (List ℕ)) (point : List ℕ) (x : ℕ) (others : List ℕ) (e : es ≡ us ∷ more) (p : point ≡ x ∷ others) where
  pub first_rising : AllRising es → Rising us
  first_rising r = subst AllRising e r 0 (omega arith)

  pub rest_rising : AllRising es → AllRising more
  rest_rising r = let r' = subst AllRising e r in λ i l. r' (suc i) (omega arith)

  pub stepped : (r : ℕ) → r ≡ position x us → place_from (number * (length us + 1) + r) more others ≡ place_from number es point
  stepped r q =
      let one : length us + 1 ≡ suc (length us) = omega arith in
      ap (λ n. place_from (number * (length us + 1) + n) more others) q ∙ ap (λ n. place_from (number * n + position x us) more others) one
      ∙ sym (ap₂ (place_from number) e p)

  pub step_most : (r : ℕ) → r ≡ position x us → length others ≡ length more → number * (length us + 1) + r ≤ place_from number es point
  step_most r q l = omega (arith, number_most more others (number * (length us + 1) + r) l, stepped r q)
