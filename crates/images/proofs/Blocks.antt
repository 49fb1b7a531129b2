-- Numbers in one block: between two neighbouring multiples of s.
use Rattle.std.proofs.Common.{◌≡◌, ℕ, suc, ◌+◌, ◌-◌, ◌*◌, ◌/◌, ◌%◌, ◌<◌, ◌≤◌, sym, ap, ◌∙◌, mod-lt, arith}
use lib.Arith.{digits_mod}
use Rattle.images.specs.Checks.{block}

pub block_is : (s a : ℕ) → 0 < s → block s a ≡ a / s * s
block_is s a h = omega arith

pub block_le : (s a : ℕ) → block s a ≤ a
block_le s a = omega arith

pub block_top : (s a : ℕ) → 0 < s → a < block s a + s
block_top s a h = let r = mod-lt a h in omega arith

pub block_in : (s a x : ℕ) → 0 < s → block s a ≤ x → x < block s a + s → block s x ≡ block s a
block_in s a x h l u =
    let e = block_is s a h in
    let q = a / s in
    let r : x - q * s < s = omega arith in
    let d : q * s + (x - q * s) ≡ x = omega arith in
    let m = ap (λ k. k % s) (sym d) ∙ digits_mod q r in
    omega arith

-- the next multiple
pub block_next : (s a : ℕ) → 0 < s → (block s a + s) % s ≡ 0
block_next s a h =
    let e = block_is s a h in
    let d : suc (a / s) * s + 0 ≡ block s a + s = omega arith in
    ap (λ k. k % s) (sym d) ∙ digits_mod (suc (a / s)) h

pub block_block : (s a : ℕ) → 0 < s → block s (block s a) ≡ block s a
block_block s a h = block_in s a (block s a) h (omega arith) (omega arith)
