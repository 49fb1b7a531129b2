-- Sums and products of the lengths of scales, and what stands side by side.
use Rattle.std.proofs.Common.{◌≡◌, ℕ, zero, suc, ◌+◌, ◌*◌, ◌<◌, ◌≤◌, true, false, ltb, inl, inr, List, [], ◌∷◌, length, get_or, take, drop, sym, refl, ap, ◌∙◌, mul-le-mul, arith, length-drop}
use Rattle.std.specs.List.{sum, list_any}
use Rattle.std.proofs.lemmas.Bool.{false≢true, cases_lt, le-ltb, lt-ltb}
use Rattle.std.proofs.lemmas.List.{drop_more, drop_all, drop-drop, length-take-le}
use Rattle.std.proofs.lemmas.List.Recursion.{is_sum_by}
use Rattle.images.specs.declared.held_image.HeldImage.{HeldImage}
use Rattle.images.specs.Directory.{inner, intervals}
use Rattle.images.specs.Memory.{scales_in}
use Rattle.images.specs.Parts.{parted, total, product}

pub product_pos : (cs : List ℕ) → 0 < product cs
product_pos [] = omega arith
product_pos (c ∷ cs) = omega (arith, product_pos cs)

-- a factor of a product is no more than it
factor : (x y n : ℕ) → 0 < y → x * y ≤ n → x ≤ n
factor x zero n p h = absurd (omega arith)
factor x (suc y) n p h = omega arith

-- one count more in the product
module _ (counts : List ℕ) (i cells : ℕ) (l : i < length counts) (inv : cells * product (drop i counts) ≡ product counts) where
  abbrev c : ℕ
  c = get_or counts i 0

  abbrev rest : ℕ
  rest = product (drop (i + 1) counts)

  pub turned : (cells * (c + 1)) * rest ≡ product counts
  turned =
      let e : cells * (suc c * rest) ≡ product counts = ap (λ (us : List ℕ). cells * product us) (sym (drop_more counts i 0 l)) ∙ inv in
      let swap : (cells * (c + 1)) * rest ≡ cells * (suc c * rest) = omega arith in
      swap ∙ e

  pub so_far : cells * (c + 1) ≤ product counts
  so_far = factor (cells * (c + 1)) rest (product counts) (product_pos (drop (i + 1) counts)) (omega (arith, turned))

  pub one_of : c + 1 ≤ product counts
  one_of = go cells turned
    where
      go : (n : ℕ) → (n * (c + 1)) * rest ≡ product counts → c + 1 ≤ product counts
      go zero e = absurd (omega (arith, product_pos counts))
      go (suc n) e = factor (c + 1) rest (product counts) (product_pos (drop (i + 1) counts)) (omega arith)

pub turned_all : (counts : List ℕ) (i cells : ℕ) → length counts ≤ i → cells * product (drop i counts) ≡ product counts → cells ≡ product counts
turned_all counts i cells l inv = let e = ap (λ (us : List ℕ). cells * product us) (drop_all i counts l) in omega (arith, inv)

-- the sum, in the library's word
pub sum_total : (cs : List ℕ) → sum cs ≡ total cs
sum_total cs = sym (is_sum_by total (λ x. x) refl (λ _ _. refl) cs)

-- one count past a limit
pub more_any : (n : ℕ) (cs : List ℕ) → list_any (λ c. ltb n c) cs ≡ true → n < total cs
more_any n [] h = absurd (false≢true h)
more_any n (c ∷ cs) h = elim (cases_lt n c) [
  | inl k ↦ omega arith
  | inr k ↦ omega (arith, more_any n cs (rw (le-ltb n c k) at h))
]

pub none_more : (n : ℕ) (cs : List ℕ) → list_any (λ c. ltb n c) cs ≡ false → total cs ≤ length cs * n
none_more n [] h = omega arith
none_more n (c ∷ cs) h = elim (cases_lt n c) [
  | inl k ↦ absurd (false≢true (sym (rw (lt-ltb n c k) at h)))
  | inr k ↦ omega (arith, none_more n cs (rw (le-ltb n c k) at h))
]

-- what stands side by side: as many numbers, and as many cells
pub inner_parted : (cs xs : List ℕ) → total cs ≤ length xs → inner (parted cs xs) ≡ total cs
inner_parted [] xs l = refl
inner_parted (c ∷ cs) xs l = omega (arith, length-take-le c xs (omega arith), inner_parted cs (drop c xs) (omega (arith, length-drop c xs)))

pub intervals_parted : (cs xs : List ℕ) → total cs ≤ length xs → intervals (parted cs xs) ≡ product cs
intervals_parted [] xs l = refl
intervals_parted (c ∷ cs) xs l =
    ap (λ n. suc n * intervals (parted cs (drop c xs))) (length-take-le c xs (omega arith))
    ∙ ap (λ n. suc c * n) (intervals_parted cs (drop c xs) (omega (arith, length-drop c xs)))

pub drop_parted : (i : ℕ) (cs xs : List ℕ) → drop i (parted cs xs) ≡ parted (drop i cs) (drop (total (take i cs)) xs)
drop_parted zero cs xs = refl
drop_parted (suc i) [] xs = refl
drop_parted (suc i) (c ∷ cs) xs = drop_parted i cs (drop c xs) ∙ ap (parted (drop i cs)) (drop-drop (total (take i cs)) c xs)

-- in an image
pub room_in : {E C : ℕ} (d : HeldImage E C) → total (take d.keys d.counts) ≤ length d.ends
room_in d = omega (arith, d.room, d.long)

pub cells_in : {E C : ℕ} (d : HeldImage E C) → product (take d.keys d.counts) ≡ intervals (scales_in d)
cells_in d = sym (intervals_parted (take d.keys d.counts) d.ends (room_in d))

-- so many numbers in so many keys make no more cells than this
abbrev most : ℕ → ℕ
most zero = 1
most (suc n) = 251 * most n

most_pos : (n : ℕ) → 0 < most n
most_pos zero = omega arith
most_pos (suc n) = omega (arith, most_pos n)

product_within : (n : ℕ) (cs : List ℕ) → length cs ≤ n → total cs ≤ 250 → product cs ≤ most n
product_within n [] l t = most_pos n
product_within zero (c ∷ cs) l t = absurd (omega arith)
product_within (suc n) (c ∷ cs) l t = mul-le-mul {n₁ = suc c} {m₁ = product cs} {n₂ = 251} {m₂ = most n} (omega arith) (product_within n cs (omega arith) (omega arith))

pub product_most : (cs : List ℕ) → length cs ≤ 4 → total cs ≤ 250 → product cs < 18446744073709551616
product_most cs l t = let h = product_within 4 cs l t in omega arith
