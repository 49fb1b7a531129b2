-- The rules of a bucket page by its bytes, as the check goes through them.
use Rattle.std.specs.Prelude.{◌≡◌, ℕ, ◌+◌, ◌*◌, ◌<◌, ◌≤◌, min, List, Some, ◌≢◌, slice_index}
use Rattle.kinds.specs.Meaning.{Meaning}
use Rattle.buckets.specs.Bucket.{record_at}
use Rattle.buckets.specs.Firsts.{FirstWith}

-- the number of records that a page names
abbrev pub count_of : List ℕ → ℕ
count_of page = slice_index page 2

-- the first four bytes
pub record Header (m : Meaning) (level : ℕ) (page : List ℕ) : Type 0 where
  pub mark_first : slice_index page 0 ≡ 0x42
  pub mark_second : slice_index page 1 ≡ 0x4B
  pub few : count_of page ≤ m.capacity
  pub named_level : slice_index page 3 ≡ level

-- record i is a record of the kind, and its keys are as they must be
abbrev pub Valid : Meaning → (List ℕ → Type 0) → List ℕ → ℕ → Type 0
Valid m Right page i = (ks : List ℕ) × (m.read (record_at m page i) ≡ Some ks) × Right ks

-- record i is valid, and the first of the page with its keys
abbrev pub FirstRight : Meaning → (List ℕ → Type 0) → List ℕ → ℕ → Type 0
FirstRight m Right page i = (ks : List ℕ) × Right ks × FirstWith (λ k. m.read (record_at m page k) ≡ Some ks) (min (count_of page) m.capacity) (Some i)

-- all records are valid, and no two have equal keys
pub record RecordsValid (m : Meaning) (Right : List ℕ → Type 0) (page : List ℕ) : Type 0 where
  pub valid : (i : ℕ) → i < count_of page → Valid m Right page i
  pub apart : (i j : ℕ) → i < j → j < count_of page → m.read (record_at m page i) ≢ m.read (record_at m page j)

-- all bytes from a place on are zero
abbrev pub ZeroFrom : ℕ → List ℕ → Type 0
ZeroFrom start page = (k : ℕ) → start ≤ k → k < 512 → slice_index page k ≡ 0

-- all the rules
pub record BucketRules (m : Meaning) (Right : List ℕ → Type 0) (level : ℕ) (page : List ℕ) : Type 0 where
  pub header : Header m level page
  pub records : RecordsValid m Right page
  pub rest : ZeroFrom (4 + count_of page * m.size) page
