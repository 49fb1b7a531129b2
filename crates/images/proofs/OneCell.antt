-- An image without lower ends has one cell.
use Rattle.std.proofs.Common.{◌≡◌, ℕ, zero, suc, ◌<◌, ◌≤◌, List, [], ◌∷◌, length, get_or, take, drop, replicate, sym, refl, ap, ◌∙◌, subst, arith}
use lib.ListN.{length-replicate}
use Rattle.boxes.specs.Space.{Lies, box_at}
use Rattle.images.specs.Directory.{Tile, one_cell, place_from, tile_at, inner, intervals}
use Rattle.images.specs.Laws.{OneCellStands}
use Rattle.images.specs.Parts.{parted, total, AllRising}
use Rattle.images.specs.Tilings.{listed}

abbrev four_zeros : List ℕ
four_zeros = 0 ∷ 0 ∷ 0 ∷ 0 ∷ []

zeros_front : (k : ℕ) → k ≤ 4 → take k four_zeros ≡ replicate k 0
zeros_front zero l = refl
zeros_front (suc zero) l = refl
zeros_front (suc (suc zero)) l = refl
zeros_front (suc (suc (suc zero))) l = refl
zeros_front (suc (suc (suc (suc zero)))) l = refl
zeros_front (suc (suc (suc (suc (suc k))))) l = absurd (omega arith)

parted_zeros : (k : ℕ) (xs : List ℕ) → parted (replicate k 0) xs ≡ replicate k []
parted_zeros zero xs = refl
parted_zeros (suc k) xs = ap (λ (es : List (List ℕ)). [] ∷ es) (parted_zeros k (drop 0 xs))

total_zeros : (k : ℕ) → total (replicate k 0) ≡ 0
total_zeros zero = refl
total_zeros (suc k) = omega (arith, total_zeros k)

intervals_none : (k : ℕ) → intervals (replicate k []) ≡ 1
intervals_none zero = refl
intervals_none (suc k) = omega (arith, intervals_none k)

none_at : (k i : ℕ) → get_or {A = List ℕ} (replicate k []) i [] ≡ []
none_at zero i = refl
none_at (suc k) zero = refl
none_at (suc k) (suc i) = none_at k i

module _ (k : ℕ) (few : k ≤ 4) (xs : List ℕ) where
  pub scales_none : parted (take k four_zeros) xs ≡ replicate k []
  scales_none = ap (λ cs. parted cs xs) (zeros_front k few) ∙ parted_zeros k xs

  pub wide_none : length (take k four_zeros) ≡ k
  wide_none = ap length (zeros_front k few) ∙ length-replicate {A = ℕ} k 0

  pub total_none : total (take k four_zeros) ≡ 0
  total_none = ap total (zeros_front k few) ∙ total_zeros k

  pub one_interval : intervals (parted (take k four_zeros) xs) ≡ 1
  one_interval = ap intervals scales_none ∙ intervals_none k

  pub rising_none : AllRising (parted (take k four_zeros) xs)
  rising_none i l j h =
      let e : get_or (parted (take k four_zeros) xs) i [] ≡ [] = ap (λ (es : List (List ℕ)). get_or es i []) scales_none ∙ none_at k i in
      absurd (omega (arith, ap length e, h))

pub first_of_all : {A : Type 0} (n : ℕ) (x d : A) → 1 ≤ n → get_or (replicate n x) 0 d ≡ x
first_of_all zero x d l = absurd (omega arith)
first_of_all (suc n) x d l = refl

pub listed_one : {A : Type 0} (n : ℕ) (f : ℕ → A) → n ≡ 1 → listed n f ≡ f 0 ∷ []
listed_one {A} n f e = ap (λ k. listed k f) e

inner_none : (k : ℕ) → inner (replicate k []) ≡ 0
inner_none zero = refl
inner_none (suc k) = omega (arith, inner_none k)

place_none : (k : ℕ) (ps : List ℕ) → place_from 0 (replicate k []) ps ≡ 0
place_none zero ps = refl
place_none (suc k) [] = refl
place_none (suc k) (p ∷ ps) = place_none k ps

tile_one : (k : ℕ) (t : Tile) (p : List ℕ) → tile_at (one_cell k t) p ≡ t
tile_one k t p = ap (λ c. get_or (t ∷ []) c (record { page = 0; level = 0 })) (place_none k p)

pub one_cell_stands : OneCellStands
one_cell_stands ws ord n x y pg l a b =
    let t : Tile = record { page = pg; level = 0 } in
    let k = length ws in
    let none : (i j : ℕ) → j < length (get_or {A = List ℕ} (replicate k []) i []) → ⊥ = λ i j h. omega (arith, ap length (none_at k i)) in
    let level : (p : List ℕ) → (tile_at (one_cell k t) p).level ≡ 0 = λ p. ap (λ (u : Tile). u.level) (tile_one k t p) in
    let at_page : (p : List ℕ) → (tile_at (one_cell k t) p).page ≡ pg = λ p. ap (λ (u : Tile). u.page) (tile_one k t p) in (
      record {
        scales = length-replicate {A = List ℕ} k [];
        few_inner = omega (arith, inner_none k);
        few_cells = omega (arith, intervals_none k);
        all_cells = sym (intervals_none k);
        rising = λ i h j s. absurd (none i (suc j) s);
        inside = λ i j h s. absurd (none i j s);
        used = λ i j h s. absurd (none i j s);
        pages = λ p _ _. (omega (arith, at_page p), omega (arith, at_page p));
        nested = λ p _ _. (omega arith, omega (arith, level p));
        covers = λ p q _ _ _ h _. subst (λ u. Lies ws ord (box_at ws ord u p) q) (sym (level p)) h;
        alike = λ p q _ _ _ _. tile_one k t q ∙ sym (tile_one k t p);
      },
      tile_one k t,
    )
