-- A bucket page byte by byte, and as the list of its records: the two say the same.
use Rattle.std.proofs.Common.{◌≡◌, ℕ, zero, suc, ◌+◌, ◌-◌, ◌*◌, ◌/◌, ◌%◌, ◌<◌, ◌≤◌, List, [], ◌∷◌, ◌++◌, length, get_or, take, drop, replicate, sym, refl, ap, ◌∙◌, ⊎_elim, append_assoc, arith, length-append}
use Rattle.std.proofs.lemmas.Nat.{div_below, mod_below, div-add-mod'}
use Rattle.std.proofs.lemmas.List.{take_at, drop_at, drop-drop, get_or-take, get_or-drop, length-take, length-drop, ext_get_or, get_or-append_right, get_or-replicate, get_or_past, length-replicate}
use Rattle.std.proofs.lemmas.Bool.{cases_lt}
use Rattle.kinds.specs.Meaning.{Meaning, Lawful}
use Rattle.images.specs.Bytes.{filled, joined}
use Rattle.buckets.specs.Bucket.{BucketOf, bucket_layout, record_at}
use Rattle.buckets.specs.BucketLaws.{OneBucket, RecordsPlaced, BucketsFull}
use Rattle.buckets.proofs.BucketRooms.{ends_inside, fits_inside}

-- two parts with the same bytes
pub part_is : (xs ys : List ℕ) (a k : ℕ) → a + k ≤ length xs → length ys ≡ k → ((j : ℕ) → j < k → get_or xs (a + j) 0 ≡ get_or ys j 0) → take k (drop a xs) ≡ ys
part_is xs ys a k h e each =
    let n : length (take k (drop a xs)) ≡ k = simp (length-take, length-drop) (omega arith) in
    ext_get_or 0 (take k (drop a xs)) ys (n ∙ sym e) (λ j l.
    let lt : j < k = omega arith in
    rw (get_or-take k (drop a xs) j 0 lt, get_or-drop a xs j 0) (each j lt))

pub part_byte : (xs : List ℕ) (a k j : ℕ) → j < k → get_or (take k (drop a xs)) j 0 ≡ get_or xs (a + j) 0
part_byte xs a k j h = rw (get_or-take k (drop a xs) j 0 h, get_or-drop a xs j 0)

-- a page and the list of its records, byte by byte
pub record Bytewise (m : Meaning) (level : ℕ) (rs : List (List ℕ)) (page : List ℕ) : Type 0 where
  pub long : length page ≡ 512
  pub mark_first : get_or page 0 0 ≡ 0x42
  pub mark_second : get_or page 1 0 ≡ 0x4B
  pub count : get_or page 2 0 ≡ length rs
  pub named_level : get_or page 3 0 ≡ level
  pub few : length rs ≤ m.capacity
  pub placed : (i : ℕ) → i < length rs → record_at m page i ≡ get_or rs i []
  pub rest : (k : ℕ) → 4 + length rs * m.size ≤ k → get_or page k 0 ≡ 0

-- strings of z bytes side by side
module _ (z : ℕ) where
  sized_long : (rs : List (List ℕ)) → ((j : ℕ) → j < length rs → length (get_or rs j []) ≡ z) → length (joined rs) ≡ length rs * z
  sized_long [] v = omega arith
  sized_long (r ∷ rs) v = omega (arith, length-append r (joined rs), v 0 (omega arith), sized_long rs (λ j l. v (suc j) (omega arith)))

  -- string number j begins at byte j * z
  placed_at : (rs : List (List ℕ)) (j : ℕ) (tail : List ℕ) → ((i : ℕ) → i < length rs → length (get_or rs i []) ≡ z) → j < length rs → take z (drop (j * z) (joined rs ++ tail)) ≡ get_or rs j []
  placed_at [] j tail v l = absurd (omega arith)
  placed_at (r ∷ rs) zero tail v l =
      let n : 0 * z ≡ 0 = omega arith in
      ap (λ k. take z (drop k ((r ++ joined rs) ++ tail))) n ∙ ap (take z) (append_assoc r (joined rs) tail) ∙ take_at r (joined rs ++ tail) z (v 0 (omega arith))
  placed_at (r ∷ rs) (suc j) tail v l =
      let n : suc j * z ≡ z + j * z = omega arith in
      ap (λ k. take z (drop k ((r ++ joined rs) ++ tail))) n
      ∙ ap (λ bs. take z (drop (z + j * z) bs)) (append_assoc r (joined rs) tail)
      ∙ ap (take z) (sym (drop-drop (j * z) z (r ++ (joined rs ++ tail))))
      ∙ ap (λ bs. take z (drop (j * z) bs)) (drop_at r (joined rs ++ tail) z (v 0 (omega arith)))
      ∙ placed_at rs j tail (λ i k. v (suc i) (omega arith)) (omega arith)

filled_long : (n : ℕ) (bs : List ℕ) → length bs ≤ n → length (filled n bs) ≡ n
filled_long n bs l = omega (arith, length-append bs (replicate (n - length bs) 0), length-replicate {A = ℕ} (n - length bs) 0)

pub zeros_zero : (n k : ℕ) → get_or {A = ℕ} (replicate n 0) k 0 ≡ 0
zeros_zero n k = ⊎_elim
    (λ lt. get_or-replicate n k 0 0 lt)
    (λ ge. get_or_past (replicate n 0) k 0 (omega (arith, length-replicate {A = ℕ} n 0)))
    (cases_lt k n)

module _ (m : Meaning) (law : Lawful m) (level : ℕ) (rs : List (List ℕ)) (few : length rs ≤ m.capacity)
    (sized : (j : ℕ) → j < length rs → length (get_or rs j []) ≡ m.size) where
  abbrev body : List ℕ
  body = (0x42 ∷ 0x4B ∷ length rs ∷ level ∷ []) ++ joined rs

  body_long : length body ≡ 4 + length rs * m.size
  body_long = omega (arith, sized_long m.size rs sized)

  layout_view : Bytewise m level rs (bucket_layout level rs)
  layout_view = record {
    long = filled_long 512 body (omega (arith, body_long, fits_inside m law (length rs) few));
    mark_first = refl;
    mark_second = refl;
    count = refl;
    named_level = refl;
    few = few;
    placed = λ j l.
        ap (take m.size) (sym (drop-drop (j * m.size) 4 (bucket_layout level rs)))
        ∙ placed_at m.size rs j (replicate (512 - length body) 0) sized l;
    rest = λ k h.
        get_or-append_right body (replicate (512 - length body) 0) (length body) k 0 refl (omega (arith, body_long))
        ∙ zeros_zero (512 - length body) (k - length body);
  }

pub view : (m : Meaning) → Lawful m → (level : ℕ) (rs : List (List ℕ)) (page : List ℕ) → BucketOf m level rs page → Bytewise m level rs page
view m law level rs page of =
    let v = layout_view m law level rs of.few of.sized in
    rw of.laid_out v

-- the bytes of two pages with the same records are the same
module _ (m : Meaning) (law : Lawful m) (level : ℕ) (rs : List (List ℕ)) (p q : List ℕ) (v : Bytewise m level rs p) (w : Bytewise m level rs q) where
  same_inside : (k : ℕ) → k < length rs * m.size → get_or p (4 + k) 0 ≡ get_or q (4 + k) 0
  same_inside k h =
      let z = m.size in
      let some : 0 < z = omega (arith, law.least_size) in
      let j = k / z in
      let i = k % z in
      let lt : j < length rs = div_below k z (length rs) some h in
      let r : i < z = mod_below k z some in
      let e : 4 + j * z + i ≡ 4 + k = omega (arith, div-add-mod' k z) in
      ap (λ n. get_or p n 0) (sym e)
      ∙ sym (part_byte p (4 + j * z) z i r)
      ∙ ap (λ (bs : List ℕ). get_or bs i 0) (v.placed j lt ∙ sym (w.placed j lt))
      ∙ part_byte q (4 + j * z) z i r
      ∙ ap (λ n. get_or q n 0) e

  same_byte : (k : ℕ) → get_or p k 0 ≡ get_or q k 0
  same_byte zero = v.mark_first ∙ sym w.mark_first
  same_byte (suc zero) = v.mark_second ∙ sym w.mark_second
  same_byte (suc (suc zero)) = v.count ∙ sym w.count
  same_byte (suc (suc (suc zero))) = v.named_level ∙ sym w.named_level
  same_byte (suc (suc (suc (suc k)))) = ⊎_elim
      (λ lt. let e : suc (suc (suc (suc k))) ≡ 4 + k = omega arith in ap (λ n. get_or p n 0) e ∙ same_inside k lt ∙ ap (λ n. get_or q n 0) (sym e))
      (λ ge. v.rest (suc (suc (suc (suc k)))) (omega arith) ∙ sym (w.rest (suc (suc (suc (suc k)))) (omega arith)))
      (cases_lt k (length rs * m.size))

  same_pages : p ≡ q
  same_pages = ext_get_or 0 p q (v.long ∙ sym w.long) (λ k _. same_byte k)

pub record_long : (m : Meaning) → Lawful m → (page : List ℕ) → length page ≡ 512 → (i : ℕ) → i < m.capacity → length (record_at m page i) ≡ m.size
record_long m law page long i h = let e = ends_inside m law i h in simp (length-take, length-drop) (omega arith)

pub from_view : (m : Meaning) → Lawful m → (level : ℕ) (rs : List (List ℕ)) (page : List ℕ) → Bytewise m level rs page → BucketOf m level rs page
from_view m law level rs page v =
    let sized : (j : ℕ) → j < length rs → length (get_or rs j []) ≡ m.size =
    λ j l. ap length (sym (v.placed j l)) ∙ record_long m law page v.long j (omega (arith, v.few)) in
    record {
      laid_out = same_pages m law level rs page (bucket_layout level rs) v (layout_view m law level rs v.few sized);
      few = v.few;
      sized = sized;
    }

pub one_bucket : OneBucket
one_bucket m l l' rs rs' page law p q =
    let v = view m law l rs page p in
    let w = view m law l' rs' page q in
    let many : length rs ≡ length rs' = sym v.count ∙ w.count in
    (ext_get_or [] rs rs' many (λ j h. sym (v.placed j h) ∙ w.placed j (omega arith)), sym v.named_level ∙ w.named_level)

pub records_placed : RecordsPlaced
records_placed m l rs page j law p h = (view m law l rs page p).placed j h

pub buckets_full : BucketsFull
buckets_full m l rs page law p = (view m law l rs page p).long
