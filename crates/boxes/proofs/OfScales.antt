-- The lower ends in each key, one by one.
use Rattle.std.proofs.Common.{◌≡◌, ℕ, zero, suc, ◌^◌, ◌<◌, ◌≤◌, Bool, true, false, ◌&&◌, leb, List, [], ◌∷◌, map, length, get_or, take, Some, None, Option, sym, refl, ap, ◌∙◌, ap₂, arith}
use Rattle.std.specs.Bool.{then_some}
use Rattle.std.proofs.lemmas.List.{get_or-take, length-take}
use Rattle.boxes.specs.declared.rising_ends.RisingEnds.{RisingEnds}
use Rattle.boxes.specs.declared.scales.Scales.{Scales}
use Rattle.boxes.specs.Counts.{Countable}
use Rattle.boxes.specs.Directories.{boundaries, cells, limits}
use Rattle.boxes.specs.RisingEnds.{ends_of}
use Rattle.boxes.specs.Scales.{scale, both_scales, ScalesJoined, HalvesJoined}
use Rattle.boxes.proofs.DirectoryCount.{limits_same, limits_passed}
use Rattle.boxes.proofs.Gathered.{ends_long}

pub ends_at : (es : List RisingEnds) (i : ℕ) (d : RisingEnds) → i < length es → get_or (map ends_of es) i [] ≡ ends_of (get_or es i d)
ends_at [] i d h = absurd (omega arith)
ends_at (e ∷ es) zero d h = refl
ends_at (e ∷ es) (suc i) d h = ends_at es i d (omega arith)

pub scale_at : (e : Scales) (i : ℕ) (d : RisingEnds) → i < 4 → scale e i ≡ ends_of (get_or e.ends i d)
scale_at e i d h = ends_at e.ends i d (omega (arith, e.four))

-- what holds of each number below four
pub below_four : (P : ℕ → Type 0) → P 0 → P 1 → P 2 → P 3 → (i : ℕ) → i < 4 → P i
below_four P a b c d zero h = a
below_four P a b c d (suc zero) h = b
below_four P a b c d (suc (suc zero)) h = c
below_four P a b c d (suc (suc (suc zero))) h = d
below_four P a b c d (suc (suc (suc (suc i)))) h = absurd (omega arith)

-- the counts of scales can be multiplied
pub countable : (e : Scales) (k : ℕ) (ns : List ℕ) → k ≤ 4 → length ns ≡ 4 → ((i : ℕ) → i < 4 → get_or ns i 0 ≡ length (scale e i)) → Countable (take k ns)
countable e k ns h l w = (
  6 ∷ 6 ∷ 6 ∷ 6 ∷ [],
  omega (arith, length-take k ns),
  omega arith,
  omega arith,
  λ i q. let m : i < k = omega (arith, length-take k ns) in rw (get_or-take k ns i 0 m) (omega (arith, w i (omega arith), few i (omega arith), six i (omega arith))),
)
  where
    six : (i : ℕ) → i < 4 → 2 ^ get_or (6 ∷ 6 ∷ 6 ∷ 6 ∷ []) i 0 ≡ 64
    six = below_four _ refl refl refl refl

    few_in : (es : List RisingEnds) (i : ℕ) → length (get_or (map ends_of es) i []) ≤ 61
    few_in [] i = omega arith
    few_in (d ∷ ds) zero = omega (arith, d.few, ends_long d)
    few_in (d ∷ ds) (suc i) = few_in ds i

    few : (i : ℕ) → i < 4 → length (scale e i) ≤ 61
    few i q = few_in e.ends i

pub counted_limits : (x y : ℕ) (e : Scales) (k : ℕ) (ns : List ℕ) → k ≤ 4 → length ns ≡ 4 → ((i : ℕ) → i < 4 → get_or ns i 0 ≡ length (scale e i)) → (f : ℕ → List ℕ) → ((i : ℕ) → i < k → scale e i ≡ f i)
    → limits x y (length (take k ns)) (λ i. get_or (take k ns) i 0) ≡ limits x y k (λ i. length (f i))
counted_limits x y e k ns h l w f q =
    let front : length (take k ns) ≡ k = omega (arith, length-take k ns) in
    ap (λ m. limits x y m (λ i. get_or (take k ns) i 0)) front
    ∙ limits_same x y k (λ i. get_or (take k ns) i 0) (λ i. length (f i)) (λ i m. get_or-take k ns i 0 m ∙ w i (omega arith) ∙ ap length (q i m))

-- what the halves give together
module _ (k : ℕ) (low high : Option Scales) (a b : Scales) (el : low ≡ Some a) (eh : high ≡ Some b) where
  pub unjoined : ScalesJoined k a b None → HalvesJoined k low high None
  unjoined (i, h, many) = rw (el, eh) (limits_passed k (λ j. length (both_scales a b j)) i h many)

  module _ (e : Scales) (ns : List ℕ) (four : length ns ≡ 4) (few : k ≤ 4) (w : (i : ℕ) → i < 4 → get_or ns i 0 ≡ length (scale e i)) (q : (i : ℕ) → i < k → scale e i ≡ both_scales a b i) where
    pub kept_or_not : (m n : ℕ) (t : Bool) → m ≡ boundaries (length (take k ns)) (λ i. get_or (take k ns) i 0) → n ≡ cells (length (take k ns)) (λ i. get_or (take k ns) i 0)
        → t ≡ (leb m 60 && leb n 80) → HalvesJoined k low high (then_some t e)
    kept_or_not m n t em en et = go t (et ∙ ap₂ (λ x y. leb x 60 && leb y 80) em en ∙ counted_limits 60 80 e k ns few four w (both_scales a b) q)
      where
        go : (u : Bool) → u ≡ limits 60 80 k (λ i. length (both_scales a b i)) → HalvesJoined k low high (then_some u e)
        go true f = rw (el, eh) (sym f, q)
        go false f = rw (el, eh) (sym f)
