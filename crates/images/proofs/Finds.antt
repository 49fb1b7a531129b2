-- Positions among rising numbers, and the point that parts them.
use Rattle.std.proofs.Common.{◌≡◌, ℕ, zero, suc, ◌+◌, ◌<◌, ◌≤◌, true, false, leb, List, [], ◌∷◌, length, get_or, ap, inl, inr, arith}
use Rattle.std.specs.List.Sorted.{IsPartitionPoint, IsPartitionedBy}
use Rattle.std.proofs.lemmas.Bool.{cases_lt, le-leb, lt-leb}
use Rattle.std.proofs.lemmas.List.{get_or_default}
use Rattle.std.proofs.lemmas.List.Sorted.{IsNonDecreasingBy-from_all_adjacent, IsPartitionedBy-leb}
use Rattle.images.specs.Directory.{Rising, position}
use Rattle.images.specs.Cells.{Up, start}
use Rattle.images.proofs.Places.{position_none, position_start, position_reach, position_mono, start_above}
use Rattle.images.proofs.Scales.{rising_up}

pub rising_tail : (e : ℕ) (es : List ℕ) → Rising (e ∷ es) → Up e es
rising_tail e es r = rising_up e es (λ j h. r (suc j) (omega arith)) after
  where
    after : (j : ℕ) → j < length es → e < get_or es j 0
    after zero h = r 0 (omega arith)
    after (suc j) h = let k = after j (omega arith) in let m = r (suc j) (omega arith) in omega arith

-- an end's own position
pub position_own : (es : List ℕ) (j : ℕ) → Rising es → j < length es → position (get_or es j 0) es ≡ suc j
position_own [] j r h = absurd (omega arith)
position_own (e ∷ es) j r h =
    let u = rising_tail e es r in
    rw (le-leb e (start e es j) (start_above e es j u (omega arith))) (ap suc (position_start e es j u (omega arith)))

pub rising_reach : (x : ℕ) (es : List ℕ) (j : ℕ) → Rising es → j < position x es → get_or es j 0 ≤ x
rising_reach x [] j r h = absurd (omega arith)
rising_reach x (e ∷ es) j r h = go j h
  where
    u : Up e es
    u = rising_tail e es r

    go : (i : ℕ) → i < position x (e ∷ es) → get_or (e ∷ es) i 0 ≤ x
    go zero h = elim (cases_lt x e) [
      | inl k ↦ absurd (omega (arith, rw (lt-leb e x k, position_none e x es u (omega arith)) at h))
      | inr k ↦ k
    ]
    go (suc i) h = elim (cases_lt x e) [
      | inl k ↦ absurd (omega (arith, rw (lt-leb e x k, position_none e x es u (omega arith)) at h))
      | inr k ↦ position_reach e x es i u (omega (arith, rw (le-leb e x k) at h))
    ]

-- past an end that is at or below x, and not past one above it
pub position_past : (x : ℕ) (es : List ℕ) (j : ℕ) → Rising es → j < length es → get_or es j 0 ≤ x → suc j ≤ position x es
position_past x es j r h k = omega (arith, position_own es j r h, position_mono (get_or es j 0) x es k)

pub position_before : (x : ℕ) (es : List ℕ) (j : ℕ) → Rising es → x < get_or es j 0 → position x es ≤ j
position_before x es j r k = elim (cases_lt j (position x es)) [
  | inl m ↦ absurd (omega (arith, rising_reach x es j r m))
  | inr m ↦ m
]

-- the ends up to x come first
pub rising_parted : (x : ℕ) (es : List ℕ) → Rising es → IsPartitionedBy (λ e. leb e x) es
rising_parted x es r = IsPartitionedBy-leb (λ e. e) es x (IsNonDecreasingBy-from_all_adjacent (λ e. e) es (λ k d h.
    let more : k + 1 ≡ suc k = omega arith in
    omega (arith, r k (omega arith), get_or_default es k d 0 (omega arith), get_or_default es (suc k) d 0 (omega arith), ap (λ n. get_or es n d) more)))

-- and x's position is how many they are
pub position_parted : (x : ℕ) (es : List ℕ) (i : ℕ) → i ≤ length es → IsPartitionPoint (λ e. leb e x ≡ true) (λ e. leb e x ≡ false) es i → i ≡ position x es
position_parted x [] i l p = omega arith
position_parted x (e ∷ es) zero l p = rw (p.1 0 0 (omega arith) (omega arith)) (position_parted x es zero (omega arith) ((λ k d a b. absurd (omega arith)), (λ k d a b. p.1 (suc k) d (omega arith) (omega arith))))
position_parted x (e ∷ es) (suc i) l p = rw (p.0 0 0 (omega arith) (omega arith)) (ap suc (position_parted x es i (omega arith) ((λ k d a b. p.0 (suc k) d (omega arith) (omega arith)), (λ k d a b. p.1 (suc k) d (omega arith) (omega arith)))))
