-- The image that a directory image in memory holds, by its arrays.
use Rattle.std.proofs.Common.{◌≡◌, ℕ, zero, suc, ◌+◌, ◌-◌, ◌*◌, ◌<◌, ◌≤◌, List, [], ◌∷◌, length, get_or, take, drop, sym, refl, ap, ◌∙◌, arith, length-drop}
use Rattle.std.specs.List.{sum}
use Rattle.std.proofs.lemmas.List.{drop_more, drop_all, drop-drop, drop-take, take-take, length-take-le, get_or-take}
use Rattle.images.specs.declared.held_image.HeldImage.{HeldImage}
use Rattle.images.specs.Directory.{intervals}
use Rattle.images.specs.Memory.{scales_in}
use Rattle.images.specs.Parts.{parted, total, product}
use Rattle.images.proofs.Counts.{sum_total, intervals_parted, drop_parted}
use Rattle.images.proofs.Places.{intervals_pos}
use Rattle.images.proofs.Turns.{length_parted}

-- parts of a list
total_suc : (cs : List ℕ) (i : ℕ) → i < length cs → total (take (suc i) cs) ≡ total (take i cs) + get_or cs i 0
total_suc [] i l = absurd (omega arith)
total_suc (c ∷ cs) zero l = omega arith
total_suc (c ∷ cs) (suc i) l = omega (arith, total_suc cs i (omega arith))

total_front : (i : ℕ) (cs : List ℕ) → total (take i cs) ≤ total cs
total_front zero cs = omega arith
total_front (suc i) [] = omega arith
total_front (suc i) (c ∷ cs) = omega (arith, total_front i cs)

get_or_parted : (cs xs : List ℕ) (i : ℕ) → i < length cs → get_or (parted cs xs) i [] ≡ take (get_or cs i 0) (drop (total (take i cs)) xs)
get_or_parted [] xs i l = absurd (omega arith)
get_or_parted (c ∷ cs) xs zero l = refl
get_or_parted (c ∷ cs) xs (suc i) l = get_or_parted cs (drop c xs) i (omega arith) ∙ ap (take (get_or cs i 0)) (drop-drop (total (take i cs)) c xs)

-- the keys from i on
drop_most : (es : List (List ℕ)) (i : ℕ) → intervals (drop i es) ≤ intervals es
drop_most es zero = omega arith
drop_most [] (suc i) = omega arith
drop_most (e ∷ es) (suc i) = omega (arith, drop_most es i)

total_split : (i : ℕ) (cs : List ℕ) → total (take i cs) + total (drop i cs) ≡ total cs
total_split zero cs = omega arith
total_split (suc i) [] = omega arith
total_split (suc i) (c ∷ cs) = omega (arith, total_split i cs)

module _ {E C : ℕ} (d : HeldImage E C) where
  abbrev counts_in : List ℕ
  counts_in = take d.keys d.counts

  count_at : (i : ℕ) → i < d.keys → get_or counts_in i 0 ≡ get_or d.counts i 0
  count_at i l = get_or-take d.keys d.counts i 0 l

  pub keys_in : length (scales_in d) ≡ d.keys
  keys_in = length_parted counts_in d.ends ∙ d.wide

  -- where the ends of key i begin
  abbrev pub first_end : ℕ → ℕ
  first_end i = total (take i counts_in)

  pub first_next : (i : ℕ) → i < d.keys → first_end (i + 1) ≡ first_end i + get_or d.counts i 0
  first_next i l = let more : i + 1 ≡ suc i = omega arith in ap first_end more ∙ total_suc counts_in i (omega (arith, d.wide)) ∙ ap (λ n. first_end i + n) (count_at i l)

  pub first_most : (i : ℕ) → first_end i ≤ E
  first_most i = omega (arith, total_front i counts_in, d.room)

  scale_is : (i : ℕ) → i < d.keys → get_or (scales_in d) i [] ≡ take (get_or d.counts i 0) (drop (first_end i) d.ends)
  scale_is i l = get_or_parted counts_in d.ends i (omega (arith, d.wide)) ∙ ap (λ n. take n (drop (first_end i) d.ends)) (count_at i l)

  pub part_is : (i from : ℕ) → i < d.keys → from ≡ first_end i → take (from + get_or d.counts i 0 - from) (drop from d.ends) ≡ get_or (scales_in d) i []
  part_is i from l e =
      let w : from + get_or d.counts i 0 - from ≡ get_or d.counts i 0 = omega arith in
      ap (λ n. take n (drop from d.ends)) w ∙ ap (λ n. take (get_or d.counts i 0) (drop n d.ends)) e ∙ sym (scale_is i l)

  pub scale_long : (i : ℕ) → i < d.keys → length (get_or (scales_in d) i []) ≡ get_or d.counts i 0
  scale_long i l =
      ap length (scale_is i l)
      ∙ length-take-le (get_or d.counts i 0) (drop (first_end i) d.ends) (omega (arith, first_next i l, first_most (i + 1), length-drop (first_end i) d.ends, d.long))

  pub count_most : (i : ℕ) → i < d.keys → get_or d.counts i 0 ≤ E
  count_most i l = omega (arith, first_next i l, first_most (i + 1))

  -- the ends of a key lie within the array
  pub at_key : (i key from : ℕ) → key < d.keys → i ≤ key → key ≤ i → from ≡ first_end i → (from ≡ first_end key) × (from + get_or d.counts key 0 ≤ E)
  at_key i key from l a b e =
      let same : i ≡ key = omega arith in
      let f : from ≡ first_end key = e ∙ ap first_end same in
      (f, omega (arith, f, first_next key l, first_most (key + 1)))

  -- the counts before key i
  pub first_is : (i : ℕ) → i < d.keys → sum (take i d.counts) ≡ first_end i
  first_is i l = sum_total (take i d.counts) ∙ ap total (sym (take-take i d.keys d.counts (omega arith)))

  -- the product of the intervals of the keys from i on
  abbrev pub product_from : ℕ → ℕ
  product_from i = intervals (drop i (scales_in d))

  pub product_more : (i : ℕ) → i < d.keys → product_from i ≡ (get_or d.counts i 0 + 1) * product_from (i + 1)
  product_more i l =
      let more : suc (get_or d.counts i 0) ≡ get_or d.counts i 0 + 1 = omega arith in
      ap intervals (drop_more (scales_in d) i [] (omega (arith, keys_in)))
      ∙ ap (λ n. suc n * product_from (i + 1)) (scale_long i l) ∙ ap (λ n. n * product_from (i + 1)) more

  pub product_all : (i : ℕ) → d.keys ≤ i → product_from i ≡ 1
  product_all i l = ap intervals (drop_all i (scales_in d) (omega (arith, keys_in)))

  pub product_is : (i : ℕ) → i ≤ d.keys → product (take (d.keys - i) (drop i d.counts)) ≡ product_from i
  product_is i l =
      let whole : i + (d.keys - i) ≡ d.keys = omega arith in
      let from : take (d.keys - i) (drop i d.counts) ≡ drop i counts_in = sym (drop-take i (d.keys - i) d.counts) ∙ ap (λ n. drop i (take n d.counts)) whole in
      ap product from
      ∙ sym (intervals_parted (drop i counts_in) (drop (first_end i) d.ends) (omega (arith, total_split i counts_in, length-drop (first_end i) d.ends, d.room, d.long)))
      ∙ ap intervals (sym (drop_parted i counts_in d.ends))

  pub product_pos : (i : ℕ) → 0 < product_from i
  product_pos i = intervals_pos (drop i (scales_in d))

  pub product_small : (i : ℕ) → product_from i ≤ C
  product_small i = omega (arith, drop_most (scales_in d) i, d.small)

  -- one key more in the product
  pub turned : (i first product : ℕ) → i < d.keys → product * product_from i ≡ product_from first
      → ((product * (get_or d.counts i 0 + 1)) * product_from (i + 1) ≡ product_from first) × (product * (get_or d.counts i 0 + 1) ≤ C)
  turned i first product l e =
      let A = get_or d.counts i 0 + 1 in
      let B = product_from (i + 1) in
      let swap : (product * A) * B ≡ product * (A * B) = omega arith in
      let q : (product * A) * B ≡ product_from first = swap ∙ ap (λ n. product * n) (sym (product_more i l)) ∙ e in
      (q, less (product * A) B (product_pos (i + 1)) (omega (arith, q, product_small first)))
    where
      less : (x y : ℕ) → 0 < y → x * y ≤ C → x ≤ C
      less x zero p h = absurd (omega arith)
      less x (suc y) p h = omega arith
