-- Records of a pool: strings of bytes side by side, of which those in a box go into its bucket.
use Rattle.std.specs.Prelude.{◌≡◌, ℕ, zero, suc, ◌*◌, ◌<◌, ◌≤◌, ◌⊎◌, List, [], ◌∷◌, ◌++◌, length, take, drop, Some, Ok, Err, MatchResult, Result, ◌≢◌}
use Rattle.boxes.specs.Cuts.{Path}
use Rattle.kinds.specs.Meaning.{Meaning}
use Rattle.buckets.specs.Bucket.{BucketOf, KeysIn}
use Rattle.buckets.specs.declared.bucket_faults.NotAdded.{NotAdded}
use Rattle.buckets.specs.declared.bucket_faults.NotAdded.TheVariants.{WrongSize, Full}
use Rattle.buckets.specs.declared.bucket_faults.NotFilled.{NotFilled}
use Rattle.buckets.specs.declared.bucket_faults.NotFilled.TheVariants.{Ragged, Overfull}

-- the first n strings of z bytes each
abbrev pub parts : ℕ → ℕ → List ℕ → List (List ℕ)
parts zero z pool = []
parts (suc n) z pool = take z pool ∷ parts n z (drop z pool)

-- it is a record of the kind, with its keys inside the box b
abbrev pub InBox : Meaning → List ℕ → List ℕ → Path → List ℕ → Type 0
InBox m ws ord b r = (ks : List ℕ) × (m.read r ≡ Some ks) × KeysIn ws ord b ks

-- qs are those of rs for which P holds, in their order
abbrev pub Chosen : (List ℕ → Type 0) → List (List ℕ) → List (List ℕ) → Type 0
Chosen P [] qs = qs ≡ []
Chosen P (r ∷ rs) qs = (P r × ((us : List (List ℕ)) × (qs ≡ r ∷ us) × Chosen P rs us)) ⊎ ((P r → ⊥) × Chosen P rs qs)

-- what a record that is not added means for the pool
abbrev pub not_filled : NotAdded → NotFilled
not_filled WrongSize = Ragged
not_filled Full = Overfull

-- the bytes come behind the chosen ones of xs in the bucket if P holds of them; or these are then more than a bucket takes
abbrev pub Took : {U : Type 0} → Meaning → (List ℕ → Type 0) → ℕ → List ℕ → List ℕ → List ℕ → Result U NotAdded → Type 0
Took m P level bytes bucket after r = (xs qs : List (List ℕ)) → Chosen P xs qs → BucketOf m level qs bucket
    → (us : List (List ℕ)) × Chosen P (xs ++ bytes ∷ []) us × MatchResult r (λ _. BucketOf m level us after) (λ fault. (fault ≡ Full) × (m.capacity < length us))

-- the page holds those strings of the pool for which P holds; or the pool is not made of whole strings, or already its first k have more of them than a bucket takes, and the page is as it was
abbrev pub Filled : {U : Type 0} → Meaning → (List ℕ → Type 0) → ℕ → List ℕ → List ℕ → List ℕ → Result U NotFilled → Type 0
Filled m P level pool page after (Ok _) = (n : ℕ) × (length pool ≡ n * m.size) × ((qs : List (List ℕ)) × Chosen P (parts n m.size pool) qs × BucketOf m level qs after)
Filled m P level pool page after (Err Ragged) = ((n : ℕ) → length pool ≢ n * m.size) × (after ≡ page)
Filled m P level pool page after (Err Overfull) = (after ≡ page) × ((n : ℕ) × (length pool ≡ n * m.size)
    × ((k : ℕ) × (k ≤ n) × ((qs : List (List ℕ)) × Chosen P (take k (parts n m.size pool)) qs × (m.capacity < length qs))))
