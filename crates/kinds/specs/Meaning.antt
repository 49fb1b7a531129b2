-- What a record kind means, and what every kind must keep.
use Rattle.std.specs.Prelude.{◌≡◌, ℕ, ◌+◌, ◌*◌, ◌<◌, ◌≤◌, List, length, Some, Option, slice_index}
use Rattle.boxes.specs.Order.{order}
use Rattle.boxes.specs.Points.{Point}

pub record Meaning : Type 0 where
  -- the width of each key in bits
  pub widths : List ℕ
  -- the key that is halved at each level
  pub halvings : List ℕ
  -- how many bytes a record has
  pub size : ℕ
  -- how many records a bucket takes
  pub capacity : ℕ
  -- the keys of a string of bytes, or none if it is no record; being a function, it gives equal strings equal verdicts and keys
  pub read : List ℕ → Option (List ℕ)

pub record Lawful (m : Meaning) : Type 0 where
  -- there are one to four keys
  pub some_keys : 1 ≤ length m.widths
  pub few_keys : length m.widths ≤ 4
  -- each has 1 to 32 bits
  pub wide : (i : ℕ) → i < length m.widths → (1 ≤ slice_index m.widths i) × (slice_index m.widths i ≤ 32)
  -- the keys are halved by rounds
  pub in_rounds : m.halvings ≡ order m.widths
  -- the keys have at most 60 bits in all, one for each halving
  pub shallow : length m.halvings ≤ 60
  -- a record has 3 to 252 bytes
  pub least_size : 3 ≤ m.size
  pub most_size : m.size ≤ 252
  -- a bucket takes at least one record
  pub some_room : 1 ≤ m.capacity
  -- its page of 512 bytes holds a header of four bytes and all its records
  pub room : 4 + m.capacity * m.size ≤ 512
  -- every record has the size stated
  pub sized : (bs ks : List ℕ) → m.read bs ≡ Some ks → length bs ≡ m.size
  -- every record has one key for each width, and it is inside the width
  pub keyed : (bs ks : List ℕ) → m.read bs ≡ Some ks → Point m.widths ks
