-- the lengths of the pages of a memory
use Rattle.std.specs.Prelude.{◌≡◌, ℕ, ◌*◌, ◌/◌, ◌<◌, ◌≤◌, List, [], length, slice_index_or}
use Rattle.std.proofs.Common.{arith, length-take, length-drop}
use Rattle.std.proofs.lemmas.List.FromFn.{length-map-range_with_len, get_or-map-range_with_len}
use Rattle.stores.specs.Pages.{Whole}
use Rattle.stores.specs.Memory.{page_at, pages_in, flat_pages, sector_pages}

pub pages_length : (n : ℕ) (m : List ℕ) → length (pages_in n m) ≡ n
unfolding pages_in
pages_length n m = length-map-range_with_len (page_at m) 0 n

pub pages_get_or : (n : ℕ) (m : List ℕ) (p : ℕ) → p < n → slice_index_or (pages_in n m) p [] ≡ page_at m p
unfolding pages_in
pages_get_or n m p h = get_or-map-range_with_len (page_at m) 0 n p p [] h (omega arith)

pub page_length : (n : ℕ) (m : List ℕ) (p : ℕ) → p < n → 512 * n ≤ length m → length (page_at m p) ≡ 512
page_length n m p h k = simp (length-take, length-drop) (omega arith)

pub pages_whole : (n : ℕ) (m : List ℕ) → 512 * n ≤ length m → Whole (pages_in n m)
pages_whole n m k p h =
    let l : p < n = rw pages_length at h in
    rw (pages_get_or n m p l) (page_length n m p l k)

pub flat_whole : (m : List ℕ) → Whole (flat_pages m)
flat_whole m = pages_whole (length m / 512) m (omega arith)

pub sector_whole : (m : List ℕ) → Whole (sector_pages m)
sector_whole m = pages_whole (8 * (length m / 4096)) m (omega arith)
