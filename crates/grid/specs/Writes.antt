-- Pages written.
use Rattle.std.specs.Prelude.{◌≡◌, ℕ, ◌≤◌, List, [], length, take, slice_index_or}
use Rattle.images.specs.Bytes.{joined}

-- pages 0 to 7 are these bytes, and all other pages are as they were
pub record RootWritten (ps : List (List ℕ)) (bytes : List ℕ) (qs : List (List ℕ)) : Type 0 where
  pub as_many : length qs ≡ length ps
  pub root : joined (take 8 qs) ≡ bytes
  pub rest : (j : ℕ) → 8 ≤ j → slice_index_or qs j [] ≡ slice_index_or ps j []
