-- Numbers by their bytes.
use Rattle.std.proofs.Common.{◌≡◌, ℕ, zero, suc, ◌*◌, ◌≤◌, List, [], ◌∷◌, length, get_or, take, arith}
use Rattle.images.specs.Parts.{total}

-- they do not grow large
pub count_le : (cs : List ℕ) (i : ℕ) → get_or cs i 0 ≤ total cs
count_le [] i = omega arith
count_le (c ∷ cs) zero = omega arith
count_le (c ∷ cs) (suc i) = omega (arith, count_le cs i)

pub total_small : (k : ℕ) (cs : List ℕ) → ((i : ℕ) → get_or cs i 0 ≤ 65535) → total (take k cs) ≤ 65535 * k
total_small zero cs small = omega arith
total_small (suc k) [] small = omega arith
total_small (suc k) (c ∷ cs) small = let here : c ≤ 65535 = small 0 in omega (arith, total_small k cs (λ i. small (suc i)))

-- a list with k numbers at its front
pub has_front : (k : ℕ) (xs : List ℕ) → length (take k xs) ≡ k → k ≤ length xs
has_front zero xs e = omega arith
has_front (suc k) [] e = omega (arith, e)
has_front (suc k) (x ∷ xs) e = let h : length (take k xs) ≡ k = omega (arith, e) in omega (arith, has_front k xs h)
