-- Scales laid side by side, one key after another.
use Rattle.std.proofs.Common.{◌≡◌, ℕ, zero, suc, ◌+◌, ◌<◌, ◌≤◌, List, [], ◌∷◌, ◌++◌, length, get_or, take, drop, set, sym, refl, ap, ◌∙◌, subst, ap₂, add-one, arith}
use borrow.Rule.Slice.PartMut.{put_mid, post_of}
use Rattle.std.proofs.lemmas.List.{length-take, length-take-le, length-set, length-append, take_more_set, take-take, take-append-le, drop_at, drop-drop, drop-take}
use Rattle.std.proofs.lemmas.Slice.{take-put_mid_below}
use Rattle.boxes.specs.Spaces.{widths_of, order_of}
use Rattle.boxes.proofs.Lows.{length_lows}
use Rattle.boxes.specs.declared.grid_box.GridBox.{GridBox}
use Rattle.images.specs.Directory.{Rising, inner, intervals}
use Rattle.images.specs.Parts.{parted, total, AllRising}
use Rattle.images.specs.Tilings.{listed, over}
use Rattle.images.proofs.Scales.{length_listed, get_or_listed, over_up, up_rising}
use Rattle.tilings.specs.declared.tile.Tile.{Tile}
use Rattle.images.specs.Parts.{product}
use Rattle.tilings.specs.Tiles.{lows_in, scales_in_numbers}
use Rattle.images.proofs.Counts.{inner_parted, intervals_parted}

-- a box has a lower end in each key
pub low_wide : (g : GridBox) → length (take g.space.now.keys g.low) ≡ g.space.now.keys
low_wide g = let s = g.space.now in sym (ap length g.placed) ∙ length_lows (widths_of s) (order_of s) _ ∙ s.wide

-- the scale of key i
abbrev pub scale_at : GridBox → List Tile → ℕ → List ℕ
scale_at g ts i = over (get_or g.low i 0) (lows_in i ts)

-- those of the first i keys stand in the array up to `from`
abbrev pub LaidSo : GridBox → List Tile → ℕ → ℕ → List ℕ → List ℕ → Type 0
LaidSo g ts i from counts ends = (parted (take i counts) ends ≡ listed i (scale_at g ts)) × (from ≡ total (take i counts)) × (from ≤ length ends) × (length counts ≡ 4)

-- one more at the end
pub listed_more : {A : Type 0} (n : ℕ) (f : ℕ → A) → listed (suc n) f ≡ listed n f ++ (f n ∷ [])
listed_more zero f = refl
listed_more (suc n) f = ap (λ us. f 0 ∷ us) (listed_more n (λ i. f (suc i)))

pub parted_more : (cs : List ℕ) (c : ℕ) (xs : List ℕ) → parted (cs ++ (c ∷ [])) xs ≡ parted cs xs ++ (take c (drop (total cs) xs) ∷ [])
parted_more [] c xs = refl
parted_more (d ∷ cs) c xs =
    ap (λ (us : List (List ℕ)). take d xs ∷ us) (parted_more cs c (drop d xs) ∙ ap (λ (us : List ℕ). parted cs (drop d xs) ++ (take c us ∷ [])) (drop-drop (total cs) d xs))

total_more : (cs : List ℕ) (c : ℕ) → total (cs ++ (c ∷ [])) ≡ total cs + c
total_more [] c = omega arith
total_more (d ∷ cs) c = omega (arith, total_more cs c)

-- what stands side by side hangs on the front alone
pub parted_front : (cs xs ys : List ℕ) → take (total cs) xs ≡ take (total cs) ys → parted cs xs ≡ parted cs ys
parted_front [] xs ys e = refl
parted_front (c ∷ cs) xs ys e =
    let n = c + total cs in
    let a : take c xs ≡ take c ys = sym (take-take c n xs (omega arith)) ∙ ap (take c) e ∙ take-take c n ys (omega arith) in
    let b : take (total cs) (drop c xs) ≡ take (total cs) (drop c ys) = sym (drop-take c (total cs) xs) ∙ ap (drop c) e ∙ drop-take c (total cs) ys in
    ap₂ (λ (u : List ℕ) (us : List (List ℕ)). u ∷ us) a (parted_front cs (drop c xs) (drop c ys) b)

inner_append : (es fs : List (List ℕ)) → inner (es ++ fs) ≡ inner es + inner fs
inner_append [] fs = omega arith
inner_append (e ∷ es) fs = omega (arith, inner_append es fs)

-- the first keys have no more numbers than all
inner_front : (i k : ℕ) (f : ℕ → List ℕ) → i ≤ k → inner (listed i f) ≤ inner (listed k f)
inner_front zero k f l = omega arith
inner_front (suc i) zero f l = absurd (omega arith)
inner_front (suc i) (suc k) f l = omega (arith, inner_front i k (λ j. f (suc j)) (omega arith))

-- what the keys so far have
pub so_many : (g : GridBox) (ts : List Tile) (i from : ℕ) (counts ends : List ℕ) → LaidSo g ts i from counts ends → inner (listed i (scale_at g ts)) ≡ from
so_many g ts i from counts ends inv = ap inner (sym inv.0) ∙ inner_parted (take i counts) ends (omega (arith, inv.1, inv.2)) ∙ sym inv.1

-- the next key: `new` is what the array has from `from` on, and `most` its places
module _ (g : GridBox) (ts : List Tile) (i from : ℕ) (counts ends new : List ℕ) (inside : i < 4) (inv : LaidSo g ts i from counts ends) where
  abbrev f : ℕ → List ℕ
  f = scale_at g ts

  next : listed (i + 1) f ≡ listed i f ++ (f i ∷ [])
  next = ap (λ n. listed n f) (add-one i) ∙ listed_more i f

  -- there is no room for it
  pub laid_full : (k n : ℕ) → i < k → n ≡ from + length new → length new < length (f i) → n < inner (listed k f)
  laid_full k n l e full =
      omega (arith, ap inner next, inner_append (listed i f) (f i ∷ []), so_many g ts i from counts ends inv, inner_front (i + 1) k f (omega arith))

  -- it was laid
  module _ (count rest : ℕ) (many : count ≡ length (f i)) (made : take count new ≡ f i) where
    abbrev full : List ℕ
    full = put_mid from rest ends new

    abbrev behind : List ℕ
    behind = post_of from rest ends

    fits : count ≤ length new
    fits = omega (arith, many, ap length made, length-take count new)

    long : length full ≡ from + (length new + length behind)
    long = length-append (take from ends) (new ++ behind) ∙ ap₂ ◌+◌ (length-take-le from ends inv.2) (length-append new behind)

    from_on : take count (drop from full) ≡ f i
    from_on = ap (take count) (drop_at (take from ends) (new ++ behind) from (length-take-le from ends inv.2)) ∙ take-append-le count new behind fits ∙ made

    counted : take (i + 1) (set counts i count) ≡ take i counts ++ (count ∷ [])
    counted = take_more_set counts i count (omega (arith, inv.3))

    before : parted (take i counts) full ≡ listed i f
    before = parted_front (take i counts) full ends (subst (λ n. take n full ≡ take n ends) inv.1 (take-put_mid_below from rest ends new from (omega arith) inv.2)) ∙ inv.0

    pub laid_more : LaidSo g ts (i + 1) (from + count) (set counts i count) full
    laid_more = (
      ap (λ (us : List ℕ). parted us full) counted ∙ parted_more (take i counts) count full
          ∙ ap₂ (λ (us : List (List ℕ)) (u : List ℕ). us ++ (u ∷ [])) before (ap (λ n. take count (drop n full)) (sym inv.1) ∙ from_on) ∙ sym next,
      ap (λ n. n + count) inv.1 ∙ sym (ap total counted ∙ total_more (take i counts) count),
      omega (arith, long, fits),
      length-set counts i count ∙ inv.3,
    )

-- all keys
pub laid_all : (g : GridBox) (ts : List Tile) (i from : ℕ) (counts ends : List ℕ) → g.space.now.keys ≤ i → i ≤ g.space.now.keys → LaidSo g ts i from counts ends
    → (length (take g.space.now.keys counts) ≡ g.space.now.keys) × (total (take g.space.now.keys counts) ≤ length ends) × (parted (take g.space.now.keys counts) ends ≡ scales_in_numbers g ts)
laid_all g ts i from counts ends l m inv =
    let k = g.space.now.keys in
    let e : i ≡ k = omega arith in (
      length-take-le k counts (omega (arith, inv.3, g.space.now.few)),
      subst (λ n. total (take n counts) ≤ length ends) e (omega (arith, inv.1, inv.2)),
      subst (λ n. parted (take n counts) ends ≡ listed n (scale_at g ts)) e inv.0,
    )

-- scales of tiles rise
pub scales_rise : (g : GridBox) (ts : List Tile) → AllRising (scales_in_numbers g ts)
scales_rise g ts i l =
    let k = g.space.now.keys in
    let f = scale_at g ts in
    subst Rising (sym (get_or_listed k f i [] (omega (arith, length_listed k f)))) (up_rising (get_or g.low i 0) (f i) (over_up (get_or g.low i 0) (lows_in i ts)))

-- the scales, copied into another array
module _ (g : GridBox) (ts : List Tile) (cs xs ys : List ℕ) (room : total cs ≤ length xs) (laid : parted cs xs ≡ scales_in_numbers g ts) where
  pub numbers_in : inner (scales_in_numbers g ts) ≡ total cs
  numbers_in = ap inner (sym laid) ∙ inner_parted cs xs room

  pub cells_made : intervals (scales_in_numbers g ts) ≡ product cs
  cells_made = ap intervals (sym laid) ∙ intervals_parted cs xs room

  pub laid_again : take (total cs) ys ≡ take (total cs) xs → parted cs ys ≡ scales_in_numbers g ts
  laid_again same = parted_front cs ys xs same ∙ laid

  pub rising_again : take (total cs) ys ≡ take (total cs) xs → AllRising (parted cs ys)
  rising_again same = subst AllRising (sym (laid_again same)) (scales_rise g ts)
