-- Numbers in a string of bytes. A field of several bytes has its highest byte first. What would lie past the end counts as zero.
use Rattle.std.specs.Prelude.{ℕ, ◌+◌, ◌*◌, Bool, ◌&&◌, List, ℤ, ◌==◌, nat_le, slice_index}
use Rattle.std.specs.Int.{w16}
use Rattle.std.proofs.Common.{to_z}

-- the byte at offset i
abbrev pub byte : List ℕ → ℕ → ℕ
byte bs i = slice_index bs i

-- the field of two, three or four bytes at offset i
abbrev pub be2 : List ℕ → ℕ → ℕ
be2 bs i = byte bs i * 256 + byte bs (i + 1)

abbrev pub be3 : List ℕ → ℕ → ℕ
be3 bs i = byte bs i * 65536 + byte bs (i + 1) * 256 + byte bs (i + 2)

abbrev pub be4 : List ℕ → ℕ → ℕ
be4 bs i = byte bs i * 16777216 + byte bs (i + 1) * 65536 + byte bs (i + 2) * 256 + byte bs (i + 3)

-- the field of two bytes at offset i as a signed number, in two's complement
abbrev pub signed2 : List ℕ → ℕ → ℤ
signed2 bs i = to_z w16 (be2 bs i)

-- does the string begin with the mark of the bytes a and b?
abbrev pub marked : ℕ → ℕ → List ℕ → Bool
marked a b bs = byte bs 0 == a && byte bs 1 == b

-- is n from low to high, both included?
abbrev pub within : ℕ → ℕ → ℕ → Bool
within low high n = nat_le low n && nat_le n high
