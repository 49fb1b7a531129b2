-- Finding the rows that repeat a point: readings, sorted by keys and then by rows.
use Rattle.std.specs.Prelude.{◌≡◌, ℕ, suc, ◌<◌, ◌⊎◌, List, [], ◌∷◌, length, slice_index, slice_index_or}
use Rattle.std.specs.List.{AllByRecursion}
use Rattle.boxes.specs.KeyLists.{keys_of}
use Rattle.sheet.specs.declared.verdict.Verdict.{Verdict}
use Rattle.sheet.specs.declared.verdict.Verdict.TheVariants.{Kept, NoPoint, Repeated}

-- keys and a row
abbrev pub Reading : Type 0
Reading = List ℕ × ℕ

-- the first four keys, zero where there is none
abbrev pub four : List ℕ → List ℕ
four ks = slice_index ks 0 ∷ (slice_index ks 1 ∷ (slice_index ks 2 ∷ (slice_index ks 3 ∷ [])))

-- the readings of the rows from row n on
abbrev pub readings_of : ℕ → List Verdict → List Reading
readings_of n [] = []
readings_of n (Kept p ∷ vs) = (four (keys_of p), n) ∷ readings_of (suc n) vs
readings_of n (NoPoint ∷ vs) = readings_of (suc n) vs
readings_of n (Repeated ∷ vs) = readings_of (suc n) vs

-- what stands past the end of a list of readings
abbrev pub no_reading : Reading
no_reading = ([], 0)

-- each reading is of one of n rows
abbrev pub InRows : ℕ → List Reading → Type 0
InRows n ss = AllByRecursion (λ (s : Reading). s.1 < n) ss

-- among the first n readings, one of row r has the keys of the one before it
abbrev pub Again : ℕ → List Reading → ℕ → Type 0
Again n ss r = (i : ℕ) × (suc i < n) × ((slice_index_or ss (suc i) no_reading).1 ≡ r) × ((slice_index_or ss i no_reading).0 ≡ (slice_index_or ss (suc i) no_reading).0)

-- the rows of these are marked, and no others
abbrev pub Marked : ℕ → List Reading → List Verdict → List Verdict → Type 0
Marked n ss vs after = (length after ≡ length vs)
    × ((r : ℕ) → (Again n ss r × (slice_index_or after r NoPoint ≡ Repeated)) ⊎ ((Again n ss r → ⊥) × (slice_index_or after r NoPoint ≡ slice_index_or vs r NoPoint)))
