-- runs of bytes that were written over
use Rattle.std.proofs.Common.{◌≡◌, ℕ, ◌+◌, ◌<◌, ◌≤◌, List, length, get_or, arith}
use borrow.Rule.Slice.PartMut.{put_mid}
use Rattle.std.proofs.lemmas.List.{places, length-append, length-take, length-drop}
use Rattle.stores.specs.Memory.{Rewritten}

-- what `m[a..a + k].copy_from_slice(b)` leaves
module _ (a k : ℕ) (m b : List ℕ) (fits : a + k ≤ length m) (e : length b ≡ k) where
  put_long : length (put_mid a k m b) ≡ length m
  put_long = simp (length-append, length-take, length-drop) (omega arith)

  put_here : (i : ℕ) → i < k → get_or (put_mid a k m b) (a + i) 0 ≡ get_or b i 0
  put_here i l = grind (arith, places)

  put_before : (i : ℕ) → i < a → get_or (put_mid a k m b) i 0 ≡ get_or m i 0
  put_before i l = grind (arith, places)

  put_after : (i : ℕ) → a + k ≤ i → get_or (put_mid a k m b) i 0 ≡ get_or m i 0
  put_after i l = grind (arith, places)

  pub put_rewritten : Rewritten m (put_mid a k m b) a k (λ i. get_or b i 0)
  put_rewritten = record { long = put_long; here = put_here; before = put_before; after = put_after }

-- the same, as a proof has it: u is what stands in the part then, and j how long the part is
pub copied : (m b u : List ℕ) (a j k : ℕ) → u ≡ b → j ≡ k → length b ≡ k → a + k ≤ length m → Rewritten m (put_mid a j m u) a k (λ i. get_or b i 0)
copied m b u a j k ue je e fits = rw (ue, je) (put_rewritten a k m b fits e)
