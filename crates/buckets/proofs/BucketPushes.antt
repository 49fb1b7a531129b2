-- A record added to a bucket page, and one taken out.
use Rattle.std.proofs.Common.{◌≡◌, ℕ, ◌+◌, ◌-◌, ◌*◌, ◌<◌, ◌≤◌, List, [], ◌∷◌, ◌++◌, length, get_or, set, replicate, sym, refl, ap, ◌∙◌, subst, ⊎_elim, arith, length-set}
use borrow.Rule.Slice.PartMut.{put_mid, mid_of}
use Rattle.std.specs.List.{remove, CopiedTo, SameBelow, SameFrom}
use lib.Seq.{paste}
use Rattle.std.proofs.lemmas.Nat.{mul-le}
use Rattle.std.proofs.lemmas.List.Edits.{length-remove, get_or-remove_below, get_or-remove_above}
use Rattle.std.proofs.lemmas.List.{places, get_or_past, length-append, length-take, length-drop, length-replicate, get_or-set_same, get_or-set_other, get_or_append_left, get_or_push, length_push}
use Rattle.std.proofs.lemmas.Slice.{put_mid-paste}
use Rattle.std.proofs.lemmas.Bool.{cases_lt}
use Rattle.kinds.specs.Meaning.{Meaning, Lawful}
use Rattle.buckets.specs.Bucket.{record_at}
use Rattle.buckets.specs.BucketRules.{count_of}
use Rattle.buckets.specs.BucketWrites.{Closed, Turned}
use Rattle.buckets.proofs.BucketRooms.{ends_inside, more_size}
use Rattle.buckets.proofs.BucketViews.{Bytewise, view, from_view, part_is, part_byte, record_long, zeros_zero}

-- a part of a list that was written over, at the width k
module _ (a k : ℕ) (m b : List ℕ) (fits : a + k ≤ length m) (e : length b ≡ k) where
  put_long : length (put_mid a k m b) ≡ length m
  put_long = simp (length-append, length-take, length-drop) (omega arith)

  put_here : (i : ℕ) → i < k → get_or (put_mid a k m b) (a + i) 0 ≡ get_or b i 0
  put_here i l = grind (arith, places)

  put_before : (i : ℕ) → i < a → get_or (put_mid a k m b) i 0 ≡ get_or m i 0
  put_before i l = grind (arith, places)

  put_after : (i : ℕ) → a + k ≤ i → get_or (put_mid a k m b) i 0 ≡ get_or m i 0
  put_after i l = grind (arith, places)

module _ (m : Meaning) (l : Lawful m) (level : ℕ) (rs : List (List ℕ)) (page : List ℕ) (of : Bytewise m level rs page) where
  module _ (b : List ℕ) (sized : length b ≡ m.size) (room : length rs < m.capacity) where
    abbrev start : ℕ
    start = 4 + length rs * m.size

    abbrev counted : List ℕ
    counted = set page 2 (length rs + 1)

    abbrev new : List ℕ
    new = put_mid start m.size counted b

    counted_long : length counted ≡ 512
    counted_long = length-set page 2 (length rs + 1) ∙ of.long

    inside : start + m.size ≤ length counted
    inside = omega (arith, ends_inside m l (length rs) room, counted_long)

    new_long : length new ≡ 512
    new_long = put_long start m.size counted b inside sized ∙ counted_long

    -- a byte before the new record, but for the number
    old_byte : (k : ℕ) → k < start → (k ≡ 2 → ⊥) → get_or new k 0 ≡ get_or page k 0
    old_byte k h ne = put_before start m.size counted b inside sized k h ∙ get_or-set_other page 2 k (length rs + 1) 0 ne

    new_count : get_or new 2 0 ≡ length rs + 1
    new_count = put_before start m.size counted b inside sized 2 (omega arith) ∙ get_or-set_same page 2 (length rs + 1) 0 (omega (arith, of.long))

    old_record : (i : ℕ) → i < length rs → record_at m new i ≡ get_or rs i []
    old_record i h =
        let a : (i + 1) * m.size ≤ length rs * m.size = mul-le (i + 1) m.size (length rs) m.size (omega arith) (omega arith) in
        let e = more_size i m.size in
        let i1 = ends_inside m l i (omega arith) in
        part_is new (record_at m page i) (4 + i * m.size) m.size (omega (arith, new_long, i1)) (record_long m l page of.long i (omega arith)) (λ j k.
        old_byte (4 + i * m.size + j) (omega arith) (λ q. omega arith) ∙ sym (part_byte page (4 + i * m.size) m.size j k))
        ∙ of.placed i h

    new_record : record_at m new (length rs) ≡ b
    new_record = part_is new b start m.size (omega (arith, new_long, counted_long, inside)) sized (λ j k. put_here start m.size counted b inside sized j k)

    record_more : (i : ℕ) → i < length (rs ++ b ∷ []) → record_at m new i ≡ get_or (rs ++ b ∷ []) i []
    record_more i h =
        ⊎_elim
        (λ lt. old_record i lt ∙ sym (get_or_append_left rs (b ∷ []) [] i lt))
        (λ ge. let e : i ≡ length rs = omega (arith, length_push rs b) in
        let p : get_or (rs ++ b ∷ []) i [] ≡ b = get_or_push rs b [] i (sym e) in
        ap (record_at m new) e ∙ new_record ∙ sym p)
        (cases_lt i (length rs))

    pushed_bytes : Bytewise m level (rs ++ b ∷ []) new
    pushed_bytes = record {
      long = new_long;
      mark_first = old_byte 0 (omega arith) (λ q. omega arith) ∙ of.mark_first;
      mark_second = old_byte 1 (omega arith) (λ q. omega arith) ∙ of.mark_second;
      count = new_count ∙ sym (length_push rs b);
      named_level = old_byte 3 (omega arith) (λ q. omega arith) ∙ of.named_level;
      few = omega (arith, length_push rs b);
      placed = record_more;
      rest = λ k h.
          let e = more_size (length rs) m.size in
          let f : length (rs ++ b ∷ []) * m.size ≡ (length rs + 1) * m.size = ap (λ n. n * m.size) (length_push rs b) in
          put_after start m.size counted b inside sized k (omega arith)
          ∙ get_or-set_other page 2 k (length rs + 1) 0 (λ q. omega arith) ∙ of.rest k (omega arith);
    }

  -- the page `shut`, on which the bytes behind record `place` have moved up
  module _ (place : ℕ) (h : place < length rs) (shut : List ℕ) (long : length shut ≡ 512) (moved : Closed page (4 + place * m.size) m.size shut) where
    abbrev left_over : List (List ℕ)
    left_over = remove rs place

    abbrev less : List ℕ
    less = set shut 2 (length rs - 1)

    fewer : length left_over + 1 ≡ length rs
    fewer = length-remove rs place h

    less_long : length less ≡ 512
    less_long = length-set shut 2 (length rs - 1) ∙ long

    before : (k : ℕ) → k < 4 + place * m.size → (k ≡ 2 → ⊥) → get_or less k 0 ≡ get_or page k 0
    before k lt ne = get_or-set_other shut 2 k (length rs - 1) 0 ne ∙ moved.0 k lt

    behind : (k : ℕ) → 4 + place * m.size ≤ k → get_or less k 0 ≡ get_or page (k + m.size) 0
    behind k ge = get_or-set_other shut 2 k (length rs - 1) 0 (λ q. omega arith) ∙ moved.1 k ge

    stays : (i : ℕ) → i < place → record_at m less i ≡ get_or left_over i []
    stays i lt =
        let a : (i + 1) * m.size ≤ place * m.size = mul-le (i + 1) m.size place m.size (omega arith) (omega arith) in
        let e = more_size i m.size in
        let small : i < m.capacity = omega (arith, of.few) in
        let i1 = ends_inside m l i small in
        part_is less (record_at m page i) (4 + i * m.size) m.size (omega (arith, less_long, i1)) (record_long m l page of.long i small) (λ j k.
        before (4 + i * m.size + j) (omega arith) (λ q. omega arith) ∙ sym (part_byte page (4 + i * m.size) m.size j k))
        ∙ of.placed i (omega arith) ∙ sym (get_or-remove_below rs place [] i lt h)

    moves : (i : ℕ) → place ≤ i → i + 1 < length rs → record_at m less i ≡ get_or left_over i []
    moves i ge lt =
        let a : place * m.size ≤ i * m.size = mul-le place m.size i m.size ge (omega arith) in
        let e = more_size i m.size in
        let small : i + 1 < m.capacity = omega (arith, of.few) in
        let i1 = ends_inside m l i (omega arith) in
        part_is less (record_at m page (i + 1)) (4 + i * m.size) m.size (omega (arith, less_long, i1)) (record_long m l page of.long (i + 1) small) (λ j k.
        let q : 4 + i * m.size + j + m.size ≡ 4 + (i + 1) * m.size + j = omega arith in
        behind (4 + i * m.size + j) (omega arith) ∙ ap (λ n. get_or page n 0) q ∙ sym (part_byte page (4 + (i + 1) * m.size) m.size j k))
        ∙ of.placed (i + 1) lt ∙ sym (get_or-remove_above rs place [] i ge h)

    taken_bytes : Bytewise m level left_over less
    taken_bytes = record {
      long = less_long;
      mark_first = before 0 (omega arith) (λ q. omega arith) ∙ of.mark_first;
      mark_second = before 1 (omega arith) (λ q. omega arith) ∙ of.mark_second;
      count = get_or-set_same shut 2 (length rs - 1) 0 (omega (arith, long)) ∙ omega (arith, fewer);
      named_level = before 3 (omega arith) (λ q. omega arith) ∙ of.named_level;
      few = omega (arith, fewer, of.few);
      placed = λ i lt. ⊎_elim (λ small. stays i small) (λ ge. moves i ge (omega (arith, fewer))) (cases_lt i place);
      rest = λ k ge.
          let n = length left_over in
          let a : place * m.size ≤ n * m.size = mul-le place m.size n m.size (omega (arith, fewer)) (omega arith) in
          let e = more_size n m.size in
          let f : (n + 1) * m.size ≡ length rs * m.size = ap (λ u. u * m.size) fewer in
          behind k (omega arith) ∙ of.rest (k + m.size) (omega arith);
    }

-- the same, in the words of the code
pub pushed_is : (m : Meaning) → Lawful m → (page b : List ℕ) → length b ≡ m.size → count_of page < m.capacity →
    (z k : ℕ) (u : List ℕ) → z ≡ m.size → k ≡ z → u ≡ b → Turned m page (put_mid (4 + count_of page * z) k (set page 2 (count_of page + 1)) u) (λ rs. rs ++ b ∷ [])
pushed_is m l page b sized room z k u ze ke ue level rs of =
    let v = view m l level rs page of in
    rw (ke, ze, ue, v.count) (from_view m l level (rs ++ b ∷ []) _ (pushed_bytes m l level rs page v b sized (rw v.count at room)))

pub put_is : (m : Meaning) (page b : List ℕ) → length b ≡ m.size →
    (z k : ℕ) (u : List ℕ) → z ≡ m.size → k ≡ z → u ≡ b →
    put_mid (4 + count_of page * z) k (set page 2 (count_of page + 1)) u ≡ paste (set page 2 (count_of page + 1)) (4 + count_of page * m.size) b m.size
put_is m page b sized z k u ze ke ue =
    rw (ke, ze) (put_mid-paste (4 + count_of page * m.size) m.size (set page 2 (count_of page + 1)) u b m.size ue refl (sym sized))

pub taken_is : (m : Meaning) → Lawful m → (page shut : List ℕ) (place : ℕ) → place < count_of page → length shut ≡ 512 →
    (z : ℕ) → z ≡ m.size → Closed page (4 + place * z) z shut → Turned m page (set shut 2 (count_of page - 1)) (λ rs. remove rs place)
taken_is m l page shut place room long z ze moved level rs of =
    let v = view m l level rs page of in
    let c : Closed page (4 + place * m.size) m.size shut = subst (λ n. Closed page (4 + place * n) n shut) ze moved in
    rw v.count (from_view m l level (remove rs place) _ (taken_bytes m l level rs page v place (rw v.count at room) shut long c))

-- what stands behind a gap has moved up to its start, and the end is zero
pub gap_closed : (page now : List ℕ) (start size : ℕ) (zeros : List ℕ) → start + size ≤ 512 → length page ≡ 512 → length now ≡ 512
    → CopiedTo page now (start + size) start (length page - (start + size)) × SameBelow page now start × SameFrom page now (start + (length page - (start + size)))
    → zeros ≡ replicate (length (mid_of (512 - size) (512 - (512 - size)) now)) 0
    → Closed page start size (put_mid (512 - size) (512 - (512 - size)) now zeros)
gap_closed page now start size zeros fits long same copied none =
    let a = 512 - size in
    let k = 512 - (512 - size) in
    let n : length (mid_of a k now) ≡ k = simp (length-take, length-drop) (omega arith) in
    let z : length zeros ≡ k = ap length none ∙ length-replicate _ 0 ∙ n in
    let inside : a + k ≤ length now = omega arith in (
      (λ i h. put_before a k now zeros inside z i (omega arith) ∙ copied.1 i 0 h),
      (λ i h. ⊎_elim
          (λ lt. let e : start + size + (i - start) ≡ i + size = omega arith in
          put_before a k now zeros inside z i lt ∙ copied.0 i 0 h (omega arith) ∙ ap (λ j. get_or page j 0) e)
          (λ ge. ⊎_elim
          (λ lt. let e : a + (i - a) ≡ i = omega arith in
          ap (λ j. get_or (put_mid a k now zeros) j 0) (sym e) ∙ put_here a k now zeros inside z (i - a) (omega arith)
          ∙ ap (λ (bs : List ℕ). get_or bs (i - a) 0) none ∙ zeros_zero (length (mid_of a k now)) (i - a) ∙ sym (get_or_past page (i + size) 0 (omega arith)))
          (λ past. get_or_past (put_mid a k now zeros) i 0 (omega (arith, put_long a k now zeros inside z)) ∙ sym (get_or_past page (i + size) 0 (omega arith)))
          (cases_lt i 512))
          (cases_lt i a)),
    )
