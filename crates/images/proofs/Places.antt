-- Positions in one key, and cell numbers.
use Rattle.std.proofs.Common.{◌≡◌, ℕ, zero, suc, ◌+◌, ◌*◌, ◌/◌, ◌%◌, ◌<◌, ◌≤◌, ◌⊎◌, List, [], ◌∷◌, length, get_or, set, sym, refl, ap, ◌∙◌, subst, ap₂, inl, inr, mul-le-mul_right, mod-lt, arith}
use lib.Arith.{digits_lt, digits_div, digits_mod}
use Rattle.std.proofs.lemmas.Bool.{cases_lt, cases_eq, le-leb, lt-leb}
use Rattle.std.proofs.lemmas.List.{length-set, get_or_default}
use Rattle.boxes.specs.Cuts.{In}
use Rattle.images.specs.Directory.{position, place_from, intervals}
use Rattle.images.specs.Cells.{Up, AllUp, SamePlaces, start, digit, stride, corner}

-- one key
pub position_le : (x : ℕ) (es : List ℕ) → position x es ≤ length es
position_le x [] = omega arith
position_le x (e ∷ es) = let ih = position_le x es in grind arith

pub position_none : (l x : ℕ) (es : List ℕ) → Up l es → x ≤ l → position x es ≡ 0
position_none l x [] u h = refl
position_none l x (e ∷ es) u h = let k : x < e = omega (arith, u.0) in rw (lt-leb e x k) (position_none e x es u.1 (omega arith))

pub up_below : (l : ℕ) (es : List ℕ) → Up l es → (e : ℕ) → In e es → l < e
up_below l [] u e i = elim i [ ]
up_below l (x ∷ es) u e (inl q) = omega (arith, u.0)
up_below l (x ∷ es) u e (inr i) = omega (arith, u.0, up_below x es u.1 e i)

pub start_above : (l : ℕ) (es : List ℕ) (j : ℕ) → Up l es → j ≤ length es → l ≤ start l es j
start_above l es zero u h = omega arith
start_above l [] (suc j) u h = absurd (omega arith)
start_above l (e ∷ es) (suc j) u h = omega (arith, u.0, start_above e es j u.1 (omega arith))

pub start_next : (l : ℕ) (es : List ℕ) (j : ℕ) → Up l es → j < length es → start l es j < get_or es j 0
start_next l [] j u h = absurd (omega arith)
start_next l (e ∷ es) zero u h = u.0
start_next l (e ∷ es) (suc j) u h = start_next e es j u.1 (omega arith)

pub position_start : (l : ℕ) (es : List ℕ) (j : ℕ) → Up l es → j ≤ length es → position (start l es j) es ≡ j
position_start l es zero u h = position_none l l es u (omega arith)
position_start l [] (suc j) u h = absurd (omega arith)
position_start l (e ∷ es) (suc j) u h = rw (le-leb e (start e es j) (start_above e es j u.1 (omega arith))) (ap suc (position_start e es j u.1 (omega arith)))

-- the interval of a number
pub start_position : (l x : ℕ) (es : List ℕ) → Up l es → l ≤ x → start l es (position x es) ≤ x
start_position l x [] u h = h
start_position l x (e ∷ es) u h = elim (cases_lt x e) [
  | inl k ↦ rw (lt-leb e x k, position_none e x es u.1 (omega arith)) h
  | inr k ↦ rw (le-leb e x k) (start_position e x es u.1 k)
]

pub position_next : (l x : ℕ) (es : List ℕ) → Up l es → position x es < length es → x < get_or es (position x es) 0
position_next l x [] u h = absurd (omega arith)
position_next l x (e ∷ es) u h = elim (cases_lt x e) [
  | inl k ↦ rw (lt-leb e x k, position_none e x es u.1 (omega arith)) k
  | inr k ↦ rw (le-leb e x k) (position_next e x es u.1 (omega (arith, rw (le-leb e x k) at h)))
]

pub position_stop : (l x high : ℕ) (es : List ℕ) → Up l es → x < high → x < get_or es (position x es) high
position_stop l x high [] u h = h
position_stop l x high (e ∷ es) u h = elim (cases_lt x e) [
  | inl k ↦ rw (lt-leb e x k, position_none e x es u.1 (omega arith)) k
  | inr k ↦ rw (le-leb e x k) (position_stop e x high es u.1 h)
]

pub position_mono : (x y : ℕ) (es : List ℕ) → x ≤ y → position x es ≤ position y es
position_mono x y [] h = omega arith
position_mono x y (e ∷ es) h = let ih = position_mono x y es h in grind arith

-- the ends before a number's position are at or below it, the others above
pub position_reach : (l x : ℕ) (es : List ℕ) (j : ℕ) → Up l es → j < position x es → get_or es j 0 ≤ x
position_reach l x [] j u h = absurd (omega arith)
position_reach l x (e ∷ es) zero u h = elim (cases_lt x e) [
  | inl k ↦ absurd (omega (arith, rw (lt-leb e x k, position_none e x es u.1 (omega arith)) at h))
  | inr k ↦ k
]
position_reach l x (e ∷ es) (suc j) u h = elim (cases_lt x e) [
  | inl k ↦ absurd (omega (arith, rw (lt-leb e x k, position_none e x es u.1 (omega arith)) at h))
  | inr k ↦ position_reach e x es j u.1 (omega (arith, rw (le-leb e x k) at h))
]

pub position_miss : (l x : ℕ) (es : List ℕ) (j : ℕ) → Up l es → j < length es → position x es ≤ j → x < get_or es j 0
position_miss l x es j u h m = elim (cases_lt x (get_or es j 0)) [
  | inl k ↦ k
  | inr k ↦ absurd (omega (arith, position_mono (get_or es j 0) x es k, position_start l es (suc j) u h))
]

-- same position: on the same side of each end
pub position_same : (l x y : ℕ) (es : List ℕ) → Up l es → position x es ≡ position y es → (e : ℕ) → In e es → e ≤ x → e ≤ y
position_same l x y [] u q e i h = elim i [ ]
position_same l x y (f ∷ es) u q e i h = elim (cases_lt y f) [
  | inl k ↦ absurd (omega (arith, rw (le-leb f x (first i), lt-leb f y k, position_none f y es u.1 (omega arith)) at q))
  | inr k ↦ rest k (position_same f x y es u.1) i
]
  where
    first : In e (f ∷ es) → f ≤ x
    first (inl a) = omega arith
    first (inr a) = omega (arith, up_below f es u.1 e a)

    rest : f ≤ y → (position x es ≡ position y es → (d : ℕ) → In d es → d ≤ x → d ≤ y) → In e (f ∷ es) → e ≤ y
    rest k ih (inl a) = omega arith
    rest k ih (inr a) = ih (omega (arith, rw (le-leb f x (first (inr a)), le-leb f y k) at q)) e a h

pub same_position : (x y : ℕ) (es : List ℕ) → ((e : ℕ) → In e es → (e ≤ x → e ≤ y) × (e ≤ y → e ≤ x)) → position x es ≡ position y es
same_position x y [] s = refl
same_position x y (e ∷ es) s =
    let ih = same_position x y es (λ f i. s f (inr i)) in
    let a = (s e (inl refl)).0 in let b = (s e (inl refl)).1 in grind arith

-- cell numbers
pub intervals_pos : (es : List (List ℕ)) → 0 < intervals es
intervals_pos [] = omega arith
intervals_pos (e ∷ es) = let ih = intervals_pos es in omega arith

pub place_from_is : (es : List (List ℕ)) (ps : List ℕ) (n : ℕ) → length ps ≡ length es → place_from n es ps ≡ n * intervals es + place_from 0 es ps
place_from_is [] ps n l = omega arith
place_from_is (e ∷ es) [] n l = absurd (omega arith)
place_from_is (e ∷ es) (p ∷ ps) n l =
    let a = place_from_is es ps (n * suc (length e) + position p e) (omega arith) in
    let b = place_from_is es ps (0 * suc (length e) + position p e) (omega arith) in
    omega (arith, a, b)

pub place_is : (e : List ℕ) (es : List (List ℕ)) (p : ℕ) (ps : List ℕ) → length ps ≡ length es → place_from 0 (e ∷ es) (p ∷ ps) ≡ position p e * intervals es + place_from 0 es ps
place_is e es p ps l = let a = place_from_is es ps (0 * suc (length e) + position p e) l in omega (arith, a)

pub place_below : (es : List (List ℕ)) (ps : List ℕ) → length ps ≡ length es → place_from 0 es ps < intervals es
place_below [] ps l = omega arith
place_below (e ∷ es) [] l = absurd (omega arith)
place_below (e ∷ es) (p ∷ ps) l =
    let ih = place_below es ps (omega arith) in
    let k : position p e < suc (length e) = omega (arith, position_le p e) in
    rw (place_is e es p ps (omega arith)) (digits_lt k ih)

-- the digits of a cell number are the positions
pub digit_place : (es : List (List ℕ)) (ps : List ℕ) (i : ℕ) → length ps ≡ length es → i < length es → digit es i (place_from 0 es ps) ≡ position (get_or ps i 0) (get_or es i [])
digit_place [] ps i l k = absurd (omega arith)
digit_place (e ∷ es) [] i l k = absurd (omega arith)
digit_place (e ∷ es) (p ∷ ps) zero l k = rw (place_is e es p ps (omega arith)) (digits_div (position p e) (place_below es ps (omega arith)))
digit_place (e ∷ es) (p ∷ ps) (suc i) l k =
    rw (place_is e es p ps (omega arith), digits_mod (position p e) (place_below es ps (omega arith))) (digit_place es ps i (omega arith) (omega arith))

-- same cell number exactly when same position in each key
pub place_same : (es : List (List ℕ)) (ps qs : List ℕ) → length ps ≡ length es → length qs ≡ length es → place_from 0 es ps ≡ place_from 0 es qs → SamePlaces es ps qs
place_same es ps qs lp lq e i k = sym (digit_place es ps i lp k) ∙ ap (digit es i) e ∙ digit_place es qs i lq k

pub same_place : (es : List (List ℕ)) (ps qs : List ℕ) (n : ℕ) → length ps ≡ length es → length qs ≡ length es → SamePlaces es ps qs → place_from n es ps ≡ place_from n es qs
same_place [] ps qs n lp lq s = refl
same_place (e ∷ es) [] qs n lp lq s = absurd (omega arith)
same_place (e ∷ es) (p ∷ ps) [] n lp lq s = absurd (omega arith)
same_place (e ∷ es) (p ∷ ps) (q ∷ qs) n lp lq s =
    rw (s 0 (omega arith)) (same_place es ps qs (n * suc (length e) + position q e) (omega arith) (omega arith) (λ i k. s (suc i) (omega arith)))

-- corners
pub length_corner : (ls : List ℕ) (es : List (List ℕ)) (n : ℕ) → length ls ≡ length es → length (corner ls es n) ≡ length es
length_corner ls [] n l = refl
length_corner [] (e ∷ es) n l = absurd (omega arith)
length_corner (x ∷ ls) (e ∷ es) n l = ap suc (length_corner ls es (n % intervals es) (omega arith))

pub corner_at : (ls : List ℕ) (es : List (List ℕ)) (n i : ℕ) → length ls ≡ length es → i < length es → get_or (corner ls es n) i 0 ≡ start (get_or ls i 0) (get_or es i []) (digit es i n)
corner_at ls [] n i l k = absurd (omega arith)
corner_at [] (e ∷ es) n i l k = absurd (omega arith)
corner_at (x ∷ ls) (e ∷ es) n zero l k = refl
corner_at (x ∷ ls) (e ∷ es) n (suc i) l k = corner_at ls es (n % intervals es) i (omega arith) (omega arith)

pub digit_le : (es : List (List ℕ)) (n i : ℕ) → n < intervals es → i < length es → digit es i n ≤ length (get_or es i [])
digit_le [] n i h k = absurd (omega arith)
digit_le (e ∷ es) n zero h k = elim (cases_lt (length e) (n / intervals es)) [
  | inl m ↦ let p = intervals_pos es in absurd (omega (arith, mul-le-mul_right (intervals es) m))
  | inr m ↦ m
]
digit_le (e ∷ es) n (suc i) h k = digit_le es (n % intervals es) i (mod-lt n (intervals_pos es)) (omega arith)

-- every cell number is that of its corner
pub place_corner : (ls : List ℕ) (es : List (List ℕ)) (n : ℕ) → length ls ≡ length es → AllUp ls es → n < intervals es → place_from 0 es (corner ls es n) ≡ n
place_corner ls [] n l u h = omega arith
place_corner [] (e ∷ es) n l u h = absurd (omega arith)
place_corner (x ∷ ls) (e ∷ es) n l u h =
    let r = place_corner ls es (n % intervals es) (omega arith) (λ i k. u (suc i) (omega arith)) (mod-lt n (intervals_pos es)) in
    let d : n / intervals es ≤ length e = digit_le (e ∷ es) n 0 h (omega arith) in
    rw (place_is e es (start x e (n / intervals es)) (corner ls es (n % intervals es)) (length_corner ls es (n % intervals es) (omega arith)), position_start x e (n / intervals es) (u 0 (omega arith)) d, r)
    (let p = intervals_pos es in omega arith)

-- one step up in key i
pub place_step : (es : List (List ℕ)) (ps : List ℕ) (i v : ℕ) → length ps ≡ length es → i < length es → position v (get_or es i []) ≡ suc (position (get_or ps i 0) (get_or es i []))
    → place_from 0 es (set ps i v) ≡ place_from 0 es ps + stride es i
place_step [] ps i v l k h = absurd (omega arith)
place_step (e ∷ es) [] i v l k h = absurd (omega arith)
place_step (e ∷ es) (p ∷ ps) zero v l k h = rw (place_is e es v ps (omega arith), place_is e es p ps (omega arith), h) (omega arith)
place_step (e ∷ es) (p ∷ ps) (suc i) v l k h =
    rw (place_is e es p (set ps i v) (length-set ps i v ∙ (omega arith)), place_is e es p ps (omega arith), place_step es ps i v (omega arith) (omega arith) h) (omega arith)

pub place_stay : (es : List (List ℕ)) (ps : List ℕ) (i v n : ℕ) → position v (get_or es i []) ≡ position (get_or ps i 0) (get_or es i []) → place_from n es (set ps i v) ≡ place_from n es ps
place_stay [] ps i v n h = refl
place_stay (e ∷ es) [] i v n h = refl
place_stay (e ∷ es) (p ∷ ps) zero v n h = rw h
place_stay (e ∷ es) (p ∷ ps) (suc i) v n h = place_stay es ps i v (n * suc (length e) + position p e) h

-- the numbers of an interval
pub position_interval : (l v high : ℕ) (es : List ℕ) (j : ℕ) → Up l es → j ≤ length es → start l es j ≤ v → v < get_or es j high → position v es ≡ j
position_interval l v high es j u k a z = elim (cases_lt j (length es)) [
  | inl m ↦ elim (cases_lt j (position v es)) [
    | inl q ↦ absurd (omega (arith, position_reach l v es j u q, get_or_default es j 0 high m))
    | inr q ↦ omega (arith, position_mono (start l es j) v es a, position_start l es j u k)
  ]
  | inr m ↦ omega (arith, position_le v es, position_mono (start l es j) v es a, position_start l es j u k)
]

-- a position changes at ends alone
pub position_jump : (x : ℕ) (es : List ℕ) → In (suc x) es ⊎ (position (suc x) es ≡ position x es)
position_jump x [] = inr refl
position_jump x (e ∷ es) = elim (cases_eq (suc x) e) [
  | inl q ↦ inl (inl q)
  | inr ne ↦ elim (position_jump x es) [
    | inl i ↦ inl (inr i)
    | inr q ↦ inr (elim (cases_lt x e) [
      | inl k ↦ rw (lt-leb e x k, lt-leb e (suc x) (omega arith)) q
      | inr k ↦ rw (le-leb e x k, le-leb e (suc x) (omega arith)) (ap suc q)
    ])
  ]
]

-- rising numbers are known by which they are
pub up_same : (l : ℕ) (es fs : List ℕ) → Up l es → Up l fs → ((x : ℕ) → In x es → In x fs) → ((x : ℕ) → In x fs → In x es) → es ≡ fs
up_same l [] [] u v f g = refl
up_same l [] (y ∷ fs) u v f g = elim (g y (inl refl)) [ ]
up_same l (x ∷ es) [] u v f g = elim (f x (inl refl)) [ ]
up_same l (x ∷ es) (y ∷ fs) u v f g =
    let xy : y ≤ x = first y fs v.1 x (f x (inl refl)) in
    let yx : x ≤ y = first x es u.1 y (g y (inl refl)) in
    let e : x ≡ y = omega arith in
    ap₂ (λ (a : ℕ) (as' : List ℕ). a ∷ as') e
    (up_same x es fs u.1 (subst (λ z. Up z fs) (sym e) v.1)
    (λ z i. later y fs z (f z (inr i)) (λ q. omega (arith, up_below x es u.1 z i)))
    (λ z i. later x es z (g z (inr i)) (λ q. omega (arith, up_below y fs v.1 z i))))
  where
    first : (a : ℕ) (cs : List ℕ) → Up a cs → (z : ℕ) → In z (a ∷ cs) → a ≤ z
    first a cs w z (inl q) = omega arith
    first a cs w z (inr i) = omega (arith, up_below a cs w z i)

    later : (a : ℕ) (cs : List ℕ) (z : ℕ) → In z (a ∷ cs) → (z ≡ a → ⊥) → In z cs
    later a cs z (inl q) ne = absurd (ne q)
    later a cs z (inr i) ne = i
