-- The pages of a grid just made, byte for byte.
use Rattle.std.specs.Prelude.{◌≡◌, ℕ, ◌<◌, ◌≤◌, true, [], length}
use Rattle.buckets.specs.Bucket.{bucket_layout}
use Rattle.buckets.specs.PageMaps.{used}
use Rattle.images.specs.Directory.{Image, one_cell, directory_layout, root_layout}
use Rattle.images.specs.Memory.{image_of}
use Rattle.kinds.specs.Meaning.{Meaning, Lawful}
use Rattle.promise.specs.Calls.{Made, Holds, Serves}
use Rattle.promise.specs.State.{State, size_of, page, root_pages}
use Rattle.promise.specs.declared.memory.Memory.{Memory}

-- an image of one cell, which names this page for the whole space
abbrev pub plain : Meaning → ℕ → Image
plain m pg = one_cell (length m.widths) (record { page = pg; level = 0 })

-- The root names page 8 for the whole space, the directory there names page 9, and the bucket there is empty.
pub record Fresh (m : Meaning) (st : State) (mem : Memory) : Type 0 where
  pub made : Made m st mem
  pub enough : 10 ≤ size_of st
  pub whole_pages : (j : ℕ) → j < size_of st → length (page st j) ≡ 512
  pub root : root_pages st ≡ root_layout (plain m 8)
  pub directory : page st 8 ≡ directory_layout 0 (plain m 9)
  pub bucket : page st 9 ≡ bucket_layout 0 []
  pub copied : image_of mem.root ≡ plain m 8
  pub marks : (j : ℕ) → j < size_of st → used mem.used j ≡ true → j < 10
  pub all_marks : (j : ℕ) → j < 10 → used mem.used j ≡ true
  pub one_directory : mem.directories ≡ 1
  pub one_leaf : mem.leaves ≡ 1

-- these pages stand for the empty set, for every kind
abbrev pub FreshStands : Type 0
FreshStands = (m : Meaning) → Lawful m → (st : State) (mem : Memory) → Fresh m st mem → Holds m st [] × ((j : ℕ) → Serves m st j → j < 10)
