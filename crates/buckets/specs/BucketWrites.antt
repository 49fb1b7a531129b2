-- Bucket pages changed.
use Rattle.std.specs.Prelude.{◌≡◌, ℕ, ◌+◌, ◌-◌, ◌*◌, ◌<◌, ◌≤◌, List, [], ◌∷◌, ◌++◌, length, Ok, Err, Result, ◌≢◌, slice_index, slice_set}
use Rattle.std.specs.List.{remove}
use Rattle.std.proofs.Math.Seq.{paste}
use Rattle.kinds.specs.Meaning.{Meaning}
use Rattle.buckets.specs.Bucket.{BucketOf}
use Rattle.buckets.specs.BucketRules.{count_of}
use Rattle.buckets.specs.declared.bucket_faults.NotAdded.{NotAdded}
use Rattle.buckets.specs.declared.bucket_faults.NotAdded.TheVariants.{WrongSize, Full}

-- whatever records the page held, it holds the changed list now, and still names its level
abbrev pub Turned : Meaning → List ℕ → List ℕ → (List (List ℕ) → List (List ℕ)) → Type 0
Turned m page after change = (level : ℕ) (rs : List (List ℕ)) → BucketOf m level rs page → BucketOf m level (change rs) after

-- the bytes stand behind the records, and the page names one more; or they are not as long as a record, or there is no room, and the page is as it was
abbrev pub Added : {U : Type 0} → Meaning → List ℕ → List ℕ → List ℕ → Result U NotAdded → Type 0
Added m page bytes after (Ok _) = (length bytes ≡ m.size) × (count_of page < m.capacity) × Turned m page after (λ rs. rs ++ bytes ∷ [])
    × (after ≡ paste (slice_set page 2 (count_of page + 1)) (4 + count_of page * m.size) bytes m.size)
Added m page bytes after (Err WrongSize) = (length bytes ≢ m.size) × (after ≡ page)
Added m page bytes after (Err Full) = (length bytes ≡ m.size) × (m.capacity ≤ count_of page) × (after ≡ page)

-- from a place on, each byte is the one that stood so many bytes behind it, or zero past the end; those before it stay
abbrev pub Closed : List ℕ → ℕ → ℕ → List ℕ → Type 0
Closed page start size after = ((k : ℕ) → k < start → slice_index after k ≡ slice_index page k)
    × ((k : ℕ) → start ≤ k → slice_index after k ≡ slice_index page (k + size))

-- the record at a place is gone, those behind it have moved up, and the page names one less; or there is none at this place, of n, and the page is as it was
abbrev pub TakenOut : {U E : Type 0} → Meaning → ℕ → List ℕ → ℕ → List ℕ → Result U E → Type 0
TakenOut m n page place after (Ok _) = (place < n) × Turned m page after (λ rs. remove rs place)
    × ((shut : List ℕ) × Closed page (4 + place * m.size) m.size shut × (after ≡ slice_set shut 2 (count_of page - 1)))
TakenOut m n page place after (Err _) = (n ≤ place) × (after ≡ page)
