-- A format: the short way to state the meaning of a kind, by a test and by the keys of what passes it.
use Rattle.std.specs.Prelude.{ℕ, Bool, true, if◌then◌else◌, ◌&&◌, List, [], ◌∷◌, length, Some, None, ◌==◌, nat_lt}
use Rattle.boxes.specs.Order.{order}
use Rattle.kinds.specs.Meaning.{Meaning}

pub record Format : Type 0 where
  -- the width of each key in bits
  pub widths : List ℕ
  -- how many bytes a record has, and how many records a bucket takes
  pub size : ℕ
  pub capacity : ℕ
  -- is a string of so many bytes a record?
  pub accepts : List ℕ → Bool
  -- the keys of a record
  pub keys : List ℕ → List ℕ

-- is each of the numbers a byte?
abbrev pub are_bytes : List ℕ → Bool
are_bytes [] = true
are_bytes (b ∷ bs) = nat_lt b 256 && are_bytes bs

-- is it a string of n bytes?
abbrev pub sized : ℕ → List ℕ → Bool
sized n bs = are_bytes bs && length bs == n

-- is it a record: a string of as many bytes as the format says, and accepted?
abbrev pub is_record : Format → List ℕ → Bool
is_record f bs = sized f.size bs && f.accepts bs

-- the meaning of a format: its keys are halved by rounds
abbrev pub meaning_of : Format → Meaning
meaning_of f = record {
  widths = f.widths;
  halvings = order f.widths;
  size = f.size;
  capacity = f.capacity;
  read = λ bs. if is_record f bs then Some (f.keys bs) else None;
}
