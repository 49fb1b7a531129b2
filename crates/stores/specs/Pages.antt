-- what a page store does to its list of pages
use Rattle.std.specs.Prelude.{◌≡◌, ℕ, ◌<◌, ◌≤◌, List, [], length, Ok, Err, Result, slice_index_or, slice_set}
use Rattle.stores.specs.declared.NoSuchPage.{NoSuchPage}

-- the number of the refusal "page number not in the store"
abbrev pub refusal_number : NoSuchPage → ℕ
refusal_number _ = 1

-- every page has 512 bytes
abbrev pub Whole : List (List ℕ) → Type 0
Whole ps = (p : ℕ) → p < length ps → length (slice_index_or ps p []) ≡ 512

-- reading page p into a buffer that held `old` and then holds `new`: its bytes, or a refusal past the last page that leaves the buffer
abbrev pub Fetched : {U : Type 0} → List (List ℕ) → ℕ → List ℕ → List ℕ → Result U NoSuchPage → Type 0
Fetched ps p old new (Ok _) = (p < length ps) × (new ≡ slice_index_or ps p [])
Fetched ps p old new (Err _) = (length ps ≤ p) × (new ≡ old)

-- writing bytes to page p of the list ps, which leaves the list qs: that page alone is new, or a refusal past the last page that leaves all
abbrev pub Stored : {U : Type 0} → List (List ℕ) → List (List ℕ) → ℕ → List ℕ → Result U NoSuchPage → Type 0
Stored ps qs p bytes (Ok _) = (p < length ps) × (qs ≡ slice_set ps p bytes)
Stored ps qs p bytes (Err _) = (length ps ≤ p) × (qs ≡ ps)
