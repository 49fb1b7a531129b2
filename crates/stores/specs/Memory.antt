-- pages in a memory, and what is left of a memory when a part is written over
use Rattle.std.specs.Prelude.{◌≡◌, ℕ, ◌+◌, ◌*◌, ◌/◌, ◌<◌, ◌≤◌, List, map, length, take, drop, Ok, Err, Result, slice_index}
use Rattle.std.specs.List.{range_with_len}
use Rattle.stores.specs.declared.NoSuchPage.{NoSuchPage}

-- page p of a memory
abbrev pub page_at : List ℕ → ℕ → List ℕ
page_at m p = take 512 (drop (512 * p) m)

-- the first n pages of a memory
unfoldable pub pages_in : ℕ → List ℕ → List (List ℕ)
pages_in n m = map (page_at m) (range_with_len 0 n)

-- flat: as many pages as fit whole
abbrev pub flat_pages : List ℕ → List (List ℕ)
flat_pages m = pages_in (length m / 512) m

-- in sectors of 4,096 bytes: eight pages to each whole sector
abbrev pub sector_pages : List ℕ → List (List ℕ)
sector_pages m = pages_in (8 * (length m / 4096)) m

-- w is the memory m with f i at place `start + i` for each i below n. Every other byte is as it was, and so is the length.
pub record Rewritten (m w : List ℕ) (start n : ℕ) (f : ℕ → ℕ) : Type 0 where
  pub long : length w ≡ length m
  pub here : (i : ℕ) → i < n → slice_index w (start + i) ≡ f i
  pub before : (i : ℕ) → i < start → slice_index w i ≡ slice_index m i
  pub after : (i : ℕ) → start + n ≤ i → slice_index w i ≡ slice_index m i

-- page p has the bytes b
abbrev pub Replaced : List ℕ → List ℕ → ℕ → List ℕ → Type 0
Replaced m w p b = Rewritten m w (512 * p) 512 (λ i. slice_index b i)

-- what a write to page p makes of a memory: that page alone is new, and a refusal leaves all
abbrev pub Written : {U : Type 0} → List ℕ → List ℕ → ℕ → List ℕ → Result U NoSuchPage → Type 0
Written m w p b (Ok _) = Replaced m w p b
Written m w p b (Err _) = w ≡ m
