-- What the bytes of a bucket page tell.
use Rattle.std.specs.Prelude.{◌≡◌, ℕ, ◌<◌, List, [], length, slice_index_or}
use Rattle.kinds.specs.Meaning.{Meaning, Lawful}
use Rattle.buckets.specs.Bucket.{BucketOf, record_at}

-- a page has one reading: its level, and its records in their order
abbrev pub OneBucket : Type 0
OneBucket = (m : Meaning) (l l' : ℕ) (rs rs' : List (List ℕ)) (page : List ℕ) → Lawful m
    → BucketOf m l rs page → BucketOf m l' rs' page → (rs ≡ rs') × (l ≡ l')

-- record number j stands at its place
abbrev pub RecordsPlaced : Type 0
RecordsPlaced = (m : Meaning) (l : ℕ) (rs : List (List ℕ)) (page : List ℕ) (j : ℕ) → Lawful m
    → BucketOf m l rs page → j < length rs → record_at m page j ≡ slice_index_or rs j []

-- a page has 512 bytes
abbrev pub BucketsFull : Type 0
BucketsFull = (m : Meaning) (l : ℕ) (rs : List (List ℕ)) (page : List ℕ) → Lawful m → BucketOf m l rs page → length page ≡ 512
