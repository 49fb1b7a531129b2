-- Fields that stand among bytes, and fields put there.
use Rattle.std.proofs.Common.{Bool, Decides, ◌≡◌, ℕ, zero, suc, ◌+◌, ◌-◌, ◌*◌, ◌<◌, ◌≤◌, List, [], ◌∷◌, ◌++◌, map, length, get_or, take, drop, set, replicate, sym, refl, ap, ◌∙◌, subst, ap₂, append_assoc, append-nil, arith, length-append, length-drop}
use borrow.Rule.Slice.PartMut.{put_mid}
use Rattle.std.proofs.lemmas.List.{take-append-drop, take-take, take_all, take_at, drop_at, drop-take, drop-drop, drop_more, get_or-drop, get_or-take, get_or-replicate, length-replicate, length-take-le, replicate_more, map_more, map_push, take_more_set, length-take}
use Rattle.std.proofs.lemmas.Slice.{take-put_mid}
use Rattle.images.specs.Bytes.{joined}
use Rattle.images.proofs.Bytes.{length_coded}
use Rattle.image_bytes.specs.Fields.{Zeros, Stands, Put}

-- fields side by side
pub take_two : {X : Type 0} (a b : ℕ) (xs : List X) → take (a + b) xs ≡ take a xs ++ take b (drop a xs)
take_two a b xs = sym (take-append-drop a (take (a + b) xs)) ∙ ap₂ ◌++◌ (take-take a (a + b) xs (omega arith)) (drop-take a b xs)

pub stands_more : (bs : List ℕ) (at : ℕ) (u v : List ℕ) → Stands bs at u → Stands bs (at + length u) v → Stands bs at (u ++ v)
stands_more bs at u v hu hv =
    ap (λ n. take n (drop at bs)) (length-append u v) ∙ take_two (length u) (length v) (drop at bs)
    ∙ ap₂ ◌++◌ hu (ap (take (length v)) (drop-drop (length u) at bs) ∙ hv)

pub stands_front : (bs : List ℕ) (at : ℕ) (u v : List ℕ) → Stands bs at (u ++ v) → Stands bs at u
stands_front bs at u v h =
    sym (take-take (length u) (length (u ++ v)) (drop at bs) (omega (arith, length-append u v))) ∙ ap (take (length u)) h ∙ take_at u v (length u) refl

pub stands_back : (bs : List ℕ) (at : ℕ) (u v : List ℕ) → Stands bs at (u ++ v) → Stands bs (at + length u) v
stands_back bs at u v h =
    ap (take (length v)) (sym (drop-drop (length u) at bs)) ∙ sym (drop-take (length u) (length v) (drop at bs))
    ∙ ap (λ n. drop (length u) (take n (drop at bs))) (sym (length-append u v)) ∙ ap (drop (length u)) h ∙ drop_at u v (length u) refl

pub stands_byte : (bs : List ℕ) (at : ℕ) (u : List ℕ) (i : ℕ) → i < length u → Stands bs at u → get_or bs (at + i) 0 ≡ get_or u i 0
stands_byte bs at u i l h = sym (get_or-drop at bs i 0) ∙ sym (get_or-take (length u) (drop at bs) i 0 l) ∙ ap (λ (us : List ℕ). get_or us i 0) h

pub stands_whole : (bs : List ℕ) → Stands bs 0 bs
stands_whole bs = take_all (length bs) bs (omega arith)

pub whole_stands : (bs u : List ℕ) → length u ≡ length bs → Stands bs 0 u → bs ≡ u
whole_stands bs u l h = sym (take_all (length u) bs (omega arith)) ∙ h

-- single bytes
pub byte_stands : (bs : List ℕ) (at : ℕ) → at < length bs → take 1 (drop at bs) ≡ get_or bs at 0 ∷ []
byte_stands bs at l = ap (take 1) (drop_more bs at 0 l)

pub bytes_stand : (n : ℕ) (bs : List ℕ) (at : ℕ) → at < length bs → take (suc n) (drop at bs) ≡ get_or bs at 0 ∷ take n (drop (at + 1) bs)
bytes_stand n bs at l = ap (take (suc n)) (drop_more bs at 0 l)

-- zeros
zero_step : (bs : List ℕ) (from n i m : ℕ) → i ≡ from + n → m ≡ n + 1 → i < length bs → get_or bs i 0 ≡ 0 → Stands bs from (replicate n 0) → Stands bs from (replicate m 0)
zero_step bs from n i m ei em l z h =
    let place : from + n ≡ from + length (replicate {A = ℕ} n 0) = ap (λ a. from + a) (sym (length-replicate {A = ℕ} n 0)) in
    let here : Stands bs i (0 ∷ []) = byte_stands bs i l ∙ ap (λ a. a ∷ []) z in
    let both = stands_more bs from (replicate n 0) (0 ∷ []) h (subst (λ a. Stands bs a (0 ∷ [])) (ei ∙ place) here) in
    subst (λ (us : List ℕ). Stands bs from us) (replicate_more n 0 ∙ ap (λ a. replicate a 0) (sym em)) both

zeros_below : (n : ℕ) (bs : List ℕ) (from : ℕ) → from + n ≤ length bs → Zeros bs from (from + n) → Stands bs from (replicate n 0)
zeros_below zero bs from l z = refl
zeros_below (suc n) bs from l z =
    zero_step bs from n (from + n) (suc n) refl (omega arith) (omega arith) (z (from + n) (omega arith) (omega arith)) (zeros_below n bs from (omega arith) (λ i ge lt. z i ge (omega arith)))

pub zeros_stand : (bs : List ℕ) (from to : ℕ) → from ≤ to → to ≤ length bs → Zeros bs from to → Stands bs from (replicate (to - from) 0)
zeros_stand bs from to le l z = zeros_below (to - from) bs from (omega arith) (λ i ge lt. z i ge (omega arith))

pub zeros_of : (r : Bool) (bs : List ℕ) (from to : ℕ) → from ≤ to → to ≤ length bs
    → Decides r ((k : ℕ) → k < length (take (to - from) (drop from bs)) → get_or (take (to - from) (drop from bs)) k 0 ≡ 0) → Decides r (Zeros bs from to)
zeros_of r bs from to le l h =
    let part = take (to - from) (drop from bs) in
    let long : length part ≡ to - from = length-take-le (to - from) (drop from bs) (omega (arith, length-drop from bs)) in
    let at : (k : ℕ) → k < to - from → get_or part k 0 ≡ get_or bs (from + k) 0 = λ k m. get_or-take (to - from) (drop from bs) k 0 m ∙ get_or-drop from bs k 0 in (
      (λ e i ge lt.
          let k : i - from < to - from = omega arith in
          let place : from + (i - from) ≡ i = omega arith in
          ap (λ n. get_or bs n 0) (sym place) ∙ sym (at (i - from) k) ∙ h.0 e (i - from) (omega (arith, long))),
      (λ z. h.1 (λ k m. let w : k < to - from = omega (arith, long) in at k w ∙ z (from + k) (omega arith) (omega arith))),
    )

pub zero_byte : (bs : List ℕ) (from to i : ℕ) → from ≤ i → i < to → Stands bs from (replicate (to - from) 0) → get_or bs i 0 ≡ 0
zero_byte bs from to i le l h =
    let e : i ≡ from + (i - from) = omega arith in
    let w = length-replicate {A = ℕ} (to - from) 0 in
    ap (λ n. get_or bs n 0) e ∙ stands_byte bs from (replicate (to - from) 0) (i - from) (omega arith) h ∙ get_or-replicate (to - from) (i - from) 0 0 (omega arith)

-- strings of codes, each z bytes long
joined_push : (us : List (List ℕ)) (v : List ℕ) → joined (us ++ v ∷ []) ≡ joined us ++ v
joined_push [] v = append-nil v
joined_push (u ∷ us) v = ap (λ (w : List ℕ). u ++ w) (joined_push us v) ∙ sym (append_assoc u (joined us) v)

pub joined_append : (us vs : List (List ℕ)) → joined (us ++ vs) ≡ joined us ++ joined vs
joined_append [] vs = refl
joined_append (u ∷ us) vs = ap (λ (w : List ℕ). u ++ w) (joined_append us vs) ∙ sym (append_assoc u (joined us) (joined vs))

module _ {A : Type 0} (g : A → List ℕ) (z : ℕ) (wide : (a : A) → length (g a) ≡ z) where
  coded_push : (us : List A) (v : A) → joined (map g (us ++ v ∷ [])) ≡ joined (map g us) ++ g v
  coded_push us v = ap joined (map_push g us v) ∙ joined_push (map g us) (g v)

  front_long : (xs : List A) (i : ℕ) → i ≤ length xs → length (joined (map g (take i xs))) ≡ z * i
  front_long xs i l = length_coded g z wide (take i xs) ∙ ap (λ n. z * n) (length-take-le i xs l)

  -- one more is read
  pub read_more : (bs : List ℕ) (at i : ℕ) (xs : List A) (v : A) → i < length xs → Stands bs at (joined (map g (take i xs))) → Stands bs (at + z * i) (g v)
      → Stands bs at (joined (map g (take (i + 1) (set xs i v))))
  read_more bs at i xs v l h k =
      let w : at + z * i ≡ at + length (joined (map g (take i xs))) = ap (λ n. at + n) (sym (front_long xs i (omega arith))) in
      let m = stands_more bs at (joined (map g (take i xs))) (g v) h (subst (λ n. Stands bs n (g v)) w k) in
      subst (λ (us : List ℕ). Stands bs at us) (sym (coded_push (take i xs) v) ∙ ap (λ (us : List A). joined (map g us)) (sym (take_more_set xs i v l))) m

  -- the one at a place
  pub code_at : (bs : List ℕ) (at : ℕ) (xs : List A) (i : ℕ) (d : A) → i < length xs → Stands bs at (joined (map g xs)) → Stands bs (at + z * i) (g (get_or xs i d))
  code_at bs at [] i d l h = absurd (omega arith)
  code_at bs at (x ∷ xs) zero d l h =
      let e : at ≡ at + z * 0 = omega arith in
      subst (λ n. Stands bs n (g x)) e (stands_front bs at (g x) (joined (map g xs)) h)
  code_at bs at (x ∷ xs) (suc i) d l h =
      let e : (at + length (g x)) + z * i ≡ at + z * suc i = omega (arith, ap (λ n. n * 1) (wide x)) in
      subst (λ n. Stands bs n (g (get_or xs i d))) e (code_at bs (at + length (g x)) xs i d (omega arith) (stands_back bs at (g x) (joined (map g xs)) h))

-- fields put side by side
pub put_none : (bs : List ℕ) (at : ℕ) → Put bs at [] bs
put_none bs at = record { long = refl; front = (let e : at + 0 ≡ at = omega arith in ap (λ n. take n bs) e ∙ sym (append-nil (take at bs))) }

pub put_more : (before middle after : List ℕ) (at next : ℕ) (u v : List ℕ) → next ≡ at + length u → Put before at u middle → Put middle next v after → Put before at (u ++ v) after
put_more before middle after at next u v e p q = record {
  long = q.long ∙ p.long;
  front =
      let w : at + length (u ++ v) ≡ next + length v = omega (arith, length-append u v) in
      ap (λ n. take n after) w ∙ q.front ∙ ap (λ n. take n middle ++ v) e ∙ ap (λ (us : List ℕ). us ++ v) p.front ∙ append_assoc (take at before) u v;
}

module _ {A : Type 0} (g : A → List ℕ) (z : ℕ) (wide : (a : A) → length (g a) ≡ z) where
  -- one more is put
  pub written_more : (before middle after : List ℕ) (at next i : ℕ) (xs : List A) (d : A) → i < length xs → next ≡ at + z * i
      → Put before at (joined (map g (take i xs))) middle → Put middle next (g (get_or xs i d)) after → Put before at (joined (map g (take (i + 1) xs))) after
  written_more before middle after at next i xs d l e p q =
      let w : next ≡ at + length (joined (map g (take i xs))) = e ∙ ap (λ n. at + n) (sym (front_long g z wide xs i (omega arith))) in
      let m = put_more before middle after at next (joined (map g (take i xs))) (g (get_or xs i d)) w p q in
      subst (λ (us : List ℕ). Put before at us after)
      (sym (joined_push (map g (take i xs)) (g (get_or xs i d))) ∙ ap joined (sym (map_more g xs i d l))) m

  pub written_all : (before after : List ℕ) (at i : ℕ) (xs : List A) → length xs ≤ i → Put before at (joined (map g (take i xs))) after → Put before at (joined (map g xs)) after
  written_all before after at i xs l p = subst (λ (us : List A). Put before at (joined (map g us)) after) (take_all i xs l) p

-- a field was copied to its place
pub put_part : (bs : List ℕ) (at : ℕ) (field : List ℕ) (k : ℕ) (ys : List ℕ) → k ≡ length field → ys ≡ field → at + length field ≤ length bs → Put bs at field (put_mid at k bs ys)
put_part bs at field k ys ek ey l =
    let room : at ≤ length bs = omega arith in
    let long : length ys ≡ length field = ap length ey in
    record {
      long = simp (length-append, length-take, length-drop) (omega arith);
      front = take-put_mid at k bs ys (at + length field) (omega arith) room ∙ ap (λ (us : List ℕ). take at bs ++ us) ey;
    }

-- all of it was put
pub put_whole : (before u after : List ℕ) → length u ≡ length before → Put before 0 u after → after ≡ u
put_whole before u after l p =
    let e : 0 + length u ≡ length u = omega arith in
    sym (take_all (length u) after (omega (arith, p.long))) ∙ ap (λ n. take n after) (sym e) ∙ p.front
