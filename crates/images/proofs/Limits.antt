-- Inner boundaries and cells of the image of a tiling, by the number of different lower ends.
use Rattle.std.proofs.Common.{◌≡◌, ℕ, zero, suc, ◌+◌, ◌-◌, ◌*◌, ◌<◌, ◌≤◌, true, leb, List, [], ◌∷◌, map, length, get_or, sym, refl, ap, ◌∙◌, subst, ap₂, inl, inr, arith}
use Rattle.std.proofs.lemmas.Bool.{cases_lt, and_parts, leb-true}
use Rattle.boxes.specs.Cuts.{Path, In}
use Rattle.boxes.specs.Points.{Names, path, lows}
use Rattle.boxes.specs.Leaves.{Distinct}
use Rattle.boxes.specs.Directories.{distinct, boundaries, cells, ends, limits}
use Rattle.boxes.proofs.Cuts.{in_map, in_map_back}
use Rattle.boxes.proofs.Distinct.{in_distinct, distinct_in, distinct_distinct}
use Rattle.boxes.proofs.Numbers.{same_number}
use Rattle.boxes.proofs.Lows.{lows_least, lows_point, path_lows}
use Rattle.boxes.proofs.Spans.{around_lies, lies_around}
use Rattle.boxes.proofs.Refine.{around_trans}
use Rattle.images.specs.Directory.{inner, intervals}
use Rattle.images.specs.Cells.{Up}
use Rattle.images.specs.Tilings.{Piece, Tiling, listed, over, lower_ends, scales_of}
use Rattle.images.specs.Paged.{paged}
use Rattle.images.proofs.Places.{up_below}
use Rattle.images.proofs.Scales.{over_in, in_over, over_up}

pub up_distinct : (l : ℕ) (es : List ℕ) → Up l es → Distinct (l ∷ es)
up_distinct l [] u = ((λ i. elim i [ ]), tt)
up_distinct l (e ∷ es) u = ((λ i. omega (arith, up_below l (e ∷ es) u l i)), up_distinct e es u.1)

-- the different numbers are the least one and those above it
pub over_count : (l : ℕ) (xs : List ℕ) → In l xs → ((x : ℕ) → In x xs → l ≤ x) → suc (length (over l xs)) ≡ length (distinct xs)
over_count l xs i least = same_number (l ∷ over l xs) (distinct xs) (up_distinct l (over l xs) (over_up l xs)) (distinct_distinct xs) there back
  where
    there : (x : ℕ) → In x (l ∷ over l xs) → In x (distinct xs)
    there x (inl e) = distinct_in x xs (subst (λ z. In z xs) (sym e) i)
    there x (inr k) = distinct_in x xs (over_in x l xs k).0

    back : (x : ℕ) → In x (distinct xs) → In x (l ∷ over l xs)
    back x k = elim (cases_lt l x) [
      | inl m ↦ inr (in_over x l xs (in_distinct x xs k) m)
      | inr m ↦ inl (let z = least x (in_distinct x xs k) in omega arith)
    ]

-- sums and products from either side
pub boundaries_first : (k : ℕ) (n : ℕ → ℕ) → boundaries (suc k) n ≡ (n 0 - 1) + boundaries k (λ i. n (suc i))
boundaries_first zero n = refl
boundaries_first (suc k) n = let ih = boundaries_first k n in omega (arith, ih)

pub cells_first : (k : ℕ) (n : ℕ → ℕ) → cells (suc k) n ≡ n 0 * cells k (λ i. n (suc i))
cells_first zero n = refl
cells_first (suc k) n = ap (λ x. n (suc k) * x) (cells_first k n) ∙ (omega arith)

pub inner_listed : (k : ℕ) (f : ℕ → List ℕ) (n : ℕ → ℕ) → ((i : ℕ) → i < k → suc (length (f i)) ≡ n i) → inner (listed k f) ≡ boundaries k n
inner_listed zero f n e = refl
inner_listed (suc k) f n e =
    omega (arith, boundaries_first k n, inner_listed k (λ i. f (suc i)) (λ i. n (suc i)) (λ i l. e (suc i) (omega arith)), e 0 (omega arith))

pub intervals_listed : (k : ℕ) (f : ℕ → List ℕ) (n : ℕ → ℕ) → ((i : ℕ) → i < k → suc (length (f i)) ≡ n i) → intervals (listed k f) ≡ cells k n
intervals_listed zero f n e = refl
intervals_listed (suc k) f n e =
    ap₂ (λ x y. x * y) (e 0 (omega arith)) (intervals_listed k (λ i. f (suc i)) (λ i. n (suc i)) (λ i l. e (suc i) (omega arith))) ∙ sym (cells_first k n)

pub paged_lows : (ws ord : List ℕ) (page : Path → ℕ) (bs : List Path) (i : ℕ) → lower_ends ws ord i (paged page bs) ≡ map (λ b. get_or (lows ws ord b) i 0) bs
paged_lows ws ord page [] i = refl
paged_lows ws ord page (b ∷ bs) i = ap (λ (xs : List ℕ). get_or (lows ws ord b) i 0 ∷ xs) (paged_lows ws ord page bs i)

module _ (ws ord : List ℕ) (h : Names ws ord) (b : Path) (short : length b ≤ length ord) (page : Path → ℕ) (bs : List Path) (tiling : Tiling ws ord b (paged page bs)) where
  abbrev ts : List Piece
  ts = paged page bs

  abbrev low : Path → ℕ → ℕ
  low d i = get_or (lows ws ord d) i 0

  -- a piece begins where b does
  first : (i : ℕ) → i < length ws → In (low b i) (lower_ends ws ord i ts)
  first i l =
      let c = lows ws ord b in
      let pc = lows_point ws ord b h in
      let ac = path_lows b ws ord h short in
      let r = tiling.one c pc (around_lies b ws ord c h pc ac) in
      let t = r.0 in
      let pt = lows_point ws ord t.box h in
      let down = lows_least t.box ws ord c h pc (lies_around t.box ws ord c h (tiling.levels t r.1) pc r.2) i l in
      let up = least i l t r.1 in
      subst (λ x. In x (lower_ends ws ord i ts)) (omega arith) (in_map (λ u. low u.box i) t ts r.1)
    where
      least : (i : ℕ) → i < length ws → (t : Piece) → In t ts → low b i ≤ low t.box i
      least i l t it = lows_least b ws ord (lows ws ord t.box) h (lows_point ws ord t.box h)
          (around_trans b t.box (path ws ord (lows ws ord t.box)) (tiling.within t it) (path_lows t.box ws ord h (tiling.levels t it))) i l

  number : (i : ℕ) → i < length ws → suc (length (over (low b i) (lower_ends ws ord i ts))) ≡ ends ws ord bs i
  number i l =
      over_count (low b i) (lower_ends ws ord i ts) (first i l)
      (λ x k. let r = in_map_back (λ u. low u.box i) x ts k in
      let z = lows_least b ws ord (lows ws ord r.0.box) h (lows_point ws ord r.0.box h)
      (around_trans b r.0.box (path ws ord (lows ws ord r.0.box)) (tiling.within r.0 r.2) (path_lows r.0.box ws ord h (tiling.levels r.0 r.2))) i l in
      omega (arith, r.1))
      ∙ ap (λ (xs : List ℕ). length (distinct xs)) (paged_lows ws ord page bs i)

  pub limits_kept : (x y : ℕ) → limits x y (length ws) (ends ws ord bs) ≡ true → (inner (scales_of ws ord b ts) ≤ x) × (intervals (scales_of ws ord b ts) ≤ y)
  limits_kept x y e =
      let k = length ws in
      let m = ends ws ord bs in
      let q = and_parts (leb (boundaries k m) x) (leb (cells k m) y) e in (
        omega (arith, leb-true (boundaries k m) x q.0, inner_listed (length ws) (λ i. over (low b i) (lower_ends ws ord i ts)) (ends ws ord bs) number),
        omega (arith, leb-true (cells k m) y q.1, intervals_listed (length ws) (λ i. over (low b i) (lower_ends ws ord i ts)) (ends ws ord bs) number),
      )
