-- The room of the records in a page.
use Rattle.std.proofs.Common.{◌≡◌, ℕ, ◌+◌, ◌*◌, ◌<◌, ◌≤◌, add-mul, one-mul, arith}
use Rattle.std.proofs.lemmas.Nat.{mul-le}
use Rattle.kinds.specs.Meaning.{Meaning, Lawful}

pub more_size : (n z : ℕ) → (n + 1) * z ≡ n * z + z
more_size n z = search (arith, add-mul, one-mul)

-- record i of at most C ends inside the page
pub ends_inside : (m : Meaning) → Lawful m → (i : ℕ) → i < m.capacity → 4 + i * m.size + m.size ≤ 512
ends_inside m l i h =
    let a : (i + 1) * m.size ≤ m.capacity * m.size = mul-le (i + 1) m.size m.capacity m.size (omega arith) (omega arith) in
    omega (arith, l.room, more_size i m.size)

-- all of them do
pub fits_inside : (m : Meaning) → Lawful m → (n : ℕ) → n ≤ m.capacity → 4 + n * m.size ≤ 512
fits_inside m l n h =
    let a : n * m.size ≤ m.capacity * m.size = mul-le n m.size m.capacity m.size h (omega arith) in
    omega (arith, l.room)

-- the number of records fits a byte
pub capacity_small : (m : Meaning) → Lawful m → m.capacity ≤ 169
capacity_small m l =
    let a : m.capacity * 3 ≤ m.capacity * m.size = mul-le m.capacity 3 m.capacity m.size (omega arith) l.least_size in
    omega (arith, l.room)
