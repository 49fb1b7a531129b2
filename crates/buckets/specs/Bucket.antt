-- The bucket page: the 512 bytes that hold the records of one box.
use Rattle.std.specs.Prelude.{◌≡◌, ℕ, ◌+◌, ◌*◌, ◌<◌, ◌≤◌, List, [], ◌∷◌, ◌++◌, length, take, drop, Some, slice_index_or}
use Rattle.boxes.specs.Cuts.{Path}
use Rattle.boxes.specs.Points.{Point}
use Rattle.boxes.specs.Space.{Lies}
use Rattle.boxes.specs.Spaces.{widths_of, order_of}
use Rattle.boxes.specs.declared.space.Space.{Space}
use Rattle.kinds.specs.Meaning.{Meaning}
use Rattle.images.specs.Bytes.{filled, joined}

-- mark, number of records, level, the records side by side, zeros
abbrev pub bucket_layout : ℕ → List (List ℕ) → List ℕ
bucket_layout level rs = filled 512 ((0x42 ∷ 0x4B ∷ length rs ∷ level ∷ []) ++ joined rs)

-- the bytes of a page at which record number j stands
abbrev pub record_at : Meaning → List ℕ → ℕ → List ℕ
record_at m page j = take m.size (drop (4 + j * m.size) page)

-- The page names this level and holds these strings of bytes, each as long as a record, and not too many.
pub record BucketOf (m : Meaning) (level : ℕ) (rs : List (List ℕ)) (page : List ℕ) : Type 0 where
  pub laid_out : page ≡ bucket_layout level rs
  pub few : length rs ≤ m.capacity
  pub sized : (j : ℕ) → j < length rs → length (slice_index_or rs j []) ≡ m.size

-- the keys are those of a point inside the box b, where ws are the widths of the keys and ord is the halving order
abbrev pub KeysIn : List ℕ → List ℕ → Path → List ℕ → Type 0
KeysIn ws ord b ks = Point ws ks × Lies ws ord b ks

-- the same in the space s
abbrev pub Held : Space → Path → List ℕ → Type 0
Held s b ks = KeysIn (widths_of s) (order_of s) b ks

-- The page is a bucket page of the box b, with these records.
pub record BucketPageIn (m : Meaning) (ws ord : List ℕ) (b : Path) (rs : List (List ℕ)) (page : List ℕ) : Type 0 where
  pub holds : BucketOf m (length b) rs page
  -- each is a record of the kind, with its keys inside the box
  pub records : (j : ℕ) → j < length rs → (ks : List ℕ) × (m.read (slice_index_or rs j []) ≡ Some ks) × KeysIn ws ord b ks
  -- no two have equal keys
  pub apart : (i j : ℕ) → i < length rs → j < length rs → m.read (slice_index_or rs i []) ≡ m.read (slice_index_or rs j []) → i ≡ j

-- the same of a box of the space s
abbrev pub BucketPage : Meaning → Space → Path → List (List ℕ) → List ℕ → Type 0
BucketPage m s b rs page = BucketPageIn m (widths_of s) (order_of s) b rs page

-- the page is a bucket page of the box, with whatever records
abbrev pub IsBucketIn : Meaning → List ℕ → List ℕ → Path → List ℕ → Type 0
IsBucketIn m ws ord b page = (rs : List (List ℕ)) × BucketPageIn m ws ord b rs page

-- the same of a box of the space s
abbrev pub IsBucket : Meaning → Space → Path → List ℕ → Type 0
IsBucket m s b page = (rs : List (List ℕ)) × BucketPage m s b rs page
