-- The range of a call, as a test and as a relation.
use Rattle.std.proofs.Common.{◌≡◌, ℕ, zero, suc, true, ◌&&◌, leb, List, [], ◌∷◌, length, refl, arith}
use Rattle.std.proofs.lemmas.Bool.{false≢true, leb-true, le-leb, and_parts, and_from}
use Rattle.boxes.specs.Ranges.{Within}
use Rattle.promise.specs.Calls.{between}

pub between_within : (ls hs ks : List ℕ) → between ls hs ks ≡ true → Within ls hs ks
between_within [] hs ks e i l = absurd (omega arith)
between_within (x ∷ ls) [] ks e i l = absurd (false≢true e)
between_within (x ∷ ls) (h ∷ hs) [] e i l = absurd (false≢true e)
between_within (x ∷ ls) (h ∷ hs) (k ∷ ks) e zero l =
    let q = and_parts (leb x k && leb k h) (between ls hs ks) e in
    let u = and_parts (leb x k) (leb k h) q.0 in
    (leb-true x k u.0, leb-true k h u.1)
between_within (x ∷ ls) (h ∷ hs) (k ∷ ks) e (suc i) l = between_within ls hs ks (and_parts (leb x k && leb k h) (between ls hs ks) e).1 i (omega arith)

pub within_between : (ls hs ks : List ℕ) → length hs ≡ length ls → length ks ≡ length ls → Within ls hs ks → between ls hs ks ≡ true
within_between [] hs ks a b w = refl
within_between (x ∷ ls) [] ks a b w = absurd (omega arith)
within_between (x ∷ ls) (h ∷ hs) [] a b w = absurd (omega arith)
within_between (x ∷ ls) (h ∷ hs) (k ∷ ks) a b w =
    let q = w 0 (omega arith) in
    and_from (leb x k && leb k h) (between ls hs ks) (and_from (leb x k) (leb k h) (le-leb x k q.0) (le-leb k h q.1)) (within_between ls hs ks (omega arith) (omega arith) (λ i l. w (suc i) (omega arith)))
