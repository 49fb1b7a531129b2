-- The points of a box by its two halves.
use Rattle.std.specs.Prelude.{◌≡◌, ℕ, ◌<◌, ◌≤◌, Bool, true, false, List, length, slice_index_or}
use Rattle.std.specs.List.Sorted.{IsPermutation}
use Rattle.boxes.specs.declared.keys.Keys.{Keys}
use Rattle.boxes.specs.declared.space.Space.{Space}
use Rattle.boxes.specs.KeyLists.{way_of}

-- in which half the point lies of the box of level l around it: false is the lower
abbrev pub side : Space → ℕ → Keys → Bool
side s l p = slice_index_or (way_of s p) l false

-- the points in another order, r of the lower half first and then those of the upper
pub record Parted (s : Space) (l : ℕ) (ps qs : List Keys) (r : ℕ) : Type 0 where
  pub same_points : IsPermutation ps qs
  pub within : r ≤ length qs
  pub lower : (i : ℕ) (d : Keys) → i < r → side s l (slice_index_or qs i d) ≡ false
  pub upper : (i : ℕ) (d : Keys) → r ≤ i → i < length qs → side s l (slice_index_or qs i d) ≡ true
