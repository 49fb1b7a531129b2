-- the two ways to alter flash, and when a write has to erase
use Rattle.std.specs.Prelude.{◌≡◌, ℕ, ◌+◌, ◌-◌, ◌*◌, ◌^◌, ◌<◌, min, List, length, Ok, Err, Result, bit_and, slice_index}
use Rattle.stores.specs.declared.NoSuchPage.{NoSuchPage}
use Rattle.stores.specs.Memory.{Rewritten}

-- erasing sets each byte of sector s to FF
abbrev pub Erased : List ℕ → List ℕ → ℕ → Type 0
Erased m w s = Rewritten m w (4096 * s) 4096 (λ _. 255)

-- programming makes each byte of a run the old one AND the new one
abbrev pub Programmed : List ℕ → List ℕ → ℕ → List ℕ → Type 0
Programmed m w start b = Rewritten m w start (length b) (λ i. bit_and (slice_index m (start + i)) (slice_index b i))

-- each number is one of eight bits
abbrev pub Bytes : List ℕ → Type 0
Bytes b = (i : ℕ) → i < length b → slice_index b i < 256

-- programming alone gives the bytes b: for each of them, old AND new is new
abbrev pub Programs : List ℕ → ℕ → List ℕ → Type 0
Programs m start b = (i : ℕ) → i < length b → bit_and (slice_index m (start + i)) (slice_index b i) ≡ slice_index b i

-- a count of 32 bits, one more or at its greatest
abbrev pub one_more : ℕ → ℕ
one_more n = min (n + 1) (2 ^ 32 - 1)

-- the count of erases, `old` before and `new` after the bytes b were written to page p of the memory m: one more just where programming alone does not give b
abbrev pub Worn : {U : Type 0} → List ℕ → ℕ → List ℕ → ℕ → ℕ → Result U NoSuchPage → Type 0
Worn m p b old new (Ok _) = (Programs m (512 * p) b → new ≡ old) × ((Programs m (512 * p) b → ⊥) → new ≡ one_more old)
Worn m p b old new (Err _) = new ≡ old
