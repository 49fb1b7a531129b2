-- Two pairs of bytes are equal if their first and their second bytes are.
use Rattle.std.proofs.Common.{◌≡◌, ℕ, Bool, true, false, ◌&&◌, ◌==◌, List, [], ◌∷◌, length, slice_index, refl, arith}
use lib.Pointwise.{pointwise}

and_true : (a b : Bool) → (a && (b && true)) ≡ (a && b)
and_true true true = refl
and_true true false = refl
and_true false b = refl

pub pair_eq : (xs ys : List ℕ) → length xs ≡ 2 → length ys ≡ 2 → pointwise ◌==◌ xs ys ≡ (slice_index xs 0 == slice_index ys 0 && slice_index xs 1 == slice_index ys 1)
pair_eq (a ∷ b ∷ []) (x ∷ y ∷ []) p q = and_true (a == x) (b == y)
pair_eq xs ys p q = absurd (omega arith)
