-- What each call does: the answer, the pages, the memory and the buffer that follow, refusals included.
-- In all of it m is the meaning of the kind, st is the state before the call and after the state after it, r is the answer, and old and new are what the buffer holds before and after.
use Rattle.std.specs.Prelude.{◌≡◌, ℕ, ◌+◌, ◌*◌, ◌<◌, ◌≤◌, Bool, true, false, ◌&&◌, ◌⊎◌, List, [], ◌∷◌, ◌++◌, length, drop, Some, None, Ok, Err, filter, Option, Result, nat_le, slice_index_or}
use Rattle.boxes.specs.Cuts.{Path, In}
use Rattle.boxes.specs.Leaves.{Distinct, Same}
use Rattle.boxes.specs.Points.{Point}
use Rattle.boxes.specs.Ranges.{IsRange}
use Rattle.boxes.specs.Spaces.{widths_of, order_of}
use Rattle.kinds.specs.Meaning.{Meaning}
use Rattle.images.specs.Bytes.{joined}
use Rattle.images.specs.Directory.{Image, tile_at, RootBytes}
use Rattle.images.specs.Memory.{image_of}
use Rattle.buckets.specs.Bucket.{record_at}
use Rattle.buckets.specs.Firsts.{FirstWith}
use Rattle.buckets.specs.PageMaps.{used}
use Rattle.promise.specs.Determined.{keys_of, points, leaf_boxes, directory_boxes, root_fits, pages_needed}
use Rattle.promise.specs.State.{State, size_of, page, root_pages, box_around, DirectoryBytes, BucketBytes, DirectoryAt, LeafAt, Stands}
use Rattle.promise.specs.declared.memory.Memory.{Memory}
use Rattle.promise.specs.declared.refusal.Refusal.{Refusal}
use Rattle.promise.specs.declared.refusal.Refusal.TheVariants.{WrongStore, NotARecord, BadKeys, BrokenPage, AlreadyHeld, NotHeld, RootFull, StoreFull, ShortBuffer}
use Rattle.promise.specs.declared.shape.Shape.{Shape}

-- The grid is made: for this kind, and over as many pages as the store has.
pub record Made (m : Meaning) (st : State) (mem : Memory) : Type 0 where
  pub is : st.memory ≡ Some mem
  pub size : mem.pages ≡ size_of st
  pub widths : widths_of mem.space ≡ m.widths
  pub halvings : order_of mem.space ≡ m.halvings

-- it is not
abbrev pub Unmade : Meaning → State → Type 0
Unmade m st = (mem : Memory) → Made m st mem → ⊥

-- a record held has these keys
abbrev pub Held : Meaning → List (List ℕ) → List ℕ → Type 0
Held m held ks = (r : List ℕ) × In r held × (m.read r ≡ Some ks)

-- page j is a directory page or a bucket page of some box
abbrev pub Serves : Meaning → State → ℕ → Type 0
Serves m st j = (b : Path) × (DirectoryAt m st b j ⊎ LeafAt m st b j)

-- The pages and the memory stand for the records held.
pub record Holds (m : Meaning) (st : State) (held : List (List ℕ)) : Type 0 where
  pub mem : Memory
  pub made : Made m st mem
  -- every page has 512 bytes
  pub whole_pages : (j : ℕ) → j < size_of st → length (page st j) ≡ 512
  -- what is held are records, no two with equal keys
  pub records : (r : List ℕ) → In r held → (ks : List ℕ) × (m.read r ≡ Some ks)
  pub no_two : Distinct (points m held)
  -- pages 0 to 7 are the root image in memory
  pub copied : RootBytes m.widths m.halvings (size_of st) (image_of mem.root) (root_pages st)
  -- boxes, buckets and pages are as they must be
  pub stands : Stands m st held
  -- the page map has exactly the pages in use: those of the root, and those that serve a box
  pub marked : (j : ℕ) → j < size_of st → used mem.used j ≡ true → (j < 8) ⊎ Serves m st j
  pub all_marked : (j : ℕ) → Serves m st j → used mem.used j ≡ true
  pub root_marked : (j : ℕ) → j < 8 → used mem.used j ≡ true
  -- the counters are the numbers of boxes
  pub counted : (mem.directories ≡ length (directory_boxes m held)) × (mem.leaves ≡ length (leaf_boxes m held))

-- How an accepted change leaves the pages: a box that stays keeps its page, and a page unused afterwards is not written.
pub record Careful (m : Meaning) (st after : State) : Type 0 where
  pub as_many : size_of after ≡ size_of st
  pub same_directory_page : (b : Path) (pg pg' : ℕ) → DirectoryAt m st b pg → DirectoryAt m after b pg' → pg ≡ pg'
  pub same_bucket_page : (b : Path) (pg pg' : ℕ) → LeafAt m st b pg → LeafAt m after b pg' → pg ≡ pg'
  pub unused : (j : ℕ) → 8 ≤ j → (Serves m after j → ⊥) → page after j ≡ page st j

-- Making a grid. Ten pages are written and in use, and no other is written; the set is empty.
pub record Makes (m : Meaning) (st : State) (r : Result ℕ Refusal) (after : State) : Type 0 where
  pub refused : (size_of st < 10) ⊎ (32768 < size_of st) → (r ≡ Err WrongStore) × (after ≡ st)
  pub made : 10 ≤ size_of st → size_of st ≤ 32768
      → (r ≡ Ok 10) × Holds m after [] × (size_of after ≡ size_of st) × ((j : ℕ) → 10 ≤ j → page after j ≡ page st j) × ((j : ℕ) → Serves m after j → j < 10)

-- Insert. Over pages that stand for a set the answer follows from the set; over any pages a refusal changes nothing.
pub record Inserts (m : Meaning) (bytes : List ℕ) (st : State) (r : Result ℕ Refusal) (after : State) : Type 0 where
  pub refused : (e : Refusal) → r ≡ Err e → after ≡ st
  pub as_many : size_of after ≡ size_of st
  pub unmade : Unmade m st → r ≡ Err WrongStore
  pub no_record : (mem : Memory) → Made m st mem → m.read bytes ≡ None → r ≡ Err NotARecord
  pub held_already : (held : List (List ℕ)) (ks : List ℕ) → Holds m st held → m.read bytes ≡ Some ks → Held m held ks → r ≡ Err AlreadyHeld
  pub root_full : (held : List (List ℕ)) (ks : List ℕ) → Holds m st held → m.read bytes ≡ Some ks → (Held m held ks → ⊥)
      → root_fits m (bytes ∷ held) ≡ false → r ≡ Err RootFull
  pub store_full : (held : List (List ℕ)) (ks : List ℕ) → Holds m st held → m.read bytes ≡ Some ks → (Held m held ks → ⊥)
      → root_fits m (bytes ∷ held) ≡ true → size_of st < pages_needed m (bytes ∷ held) → r ≡ Err StoreFull
  pub added : (held : List (List ℕ)) (ks : List ℕ) → Holds m st held → m.read bytes ≡ Some ks → (Held m held ks → ⊥)
      → root_fits m (bytes ∷ held) ≡ true → pages_needed m (bytes ∷ held) ≤ size_of st
      → (r ≡ Ok (pages_needed m (bytes ∷ held))) × Holds m after (bytes ∷ held) × Careful m st after

-- Delete. It never lacks room.
pub record Deletes (m : Meaning) (ks : List ℕ) (st : State) (r : Result ℕ Refusal) (after : State) : Type 0 where
  pub refused : (e : Refusal) → r ≡ Err e → after ≡ st
  pub as_many : size_of after ≡ size_of st
  pub unmade : Unmade m st → r ≡ Err WrongStore
  pub bad_keys : (mem : Memory) → Made m st mem → (Point m.widths ks → ⊥) → r ≡ Err BadKeys
  pub not_held : (held : List (List ℕ)) → Holds m st held → Point m.widths ks → (Held m held ks → ⊥) → r ≡ Err NotHeld
  pub taken : (held rest : List (List ℕ)) (x : List ℕ) → Holds m st held → m.read x ≡ Some ks → Same held (x ∷ rest)
      → (r ≡ Ok (pages_needed m rest)) × Holds m after rest × Careful m st after

-- what find does at its bucket page, number pg, whose box is b: it answers the first record with these keys, or that there is none
pub record FindsIn (m : Meaning) (ks : List ℕ) (st : State) (b : Path) (pg : ℕ) (old : List ℕ) (r : Result (Option ℕ) Refusal) (new : List ℕ) : Type 0 where
  pub broken : ((rs : List (List ℕ)) → BucketBytes m b rs (page st pg) → ⊥) → (r ≡ Err (BrokenPage pg)) × (new ≡ old)
  pub sound : (rs : List (List ℕ)) → BucketBytes m b rs (page st pg)
      → (o : Option ℕ) × (r ≡ Ok o) × FirstWith (λ j. m.read (slice_index_or rs j []) ≡ Some ks) (length rs) o × (new ≡ page st pg)

-- what find does from its directory page, number pg, whose box is b
pub record FindsFrom (m : Meaning) (ks : List ℕ) (st : State) (b : Path) (pg : ℕ) (old : List ℕ) (r : Result (Option ℕ) Refusal) (new : List ℕ) : Type 0 where
  pub broken : ((img : Image) → DirectoryBytes m st b img (page st pg) → ⊥) → (r ≡ Err (BrokenPage pg)) × (new ≡ old)
  pub sound : (img : Image) → DirectoryBytes m st b img (page st pg) → FindsIn m ks st (box_around m (tile_at img ks) ks) (tile_at img ks).page old r new

-- Find goes by the root image in memory and two pages as they stand, whatever these hold.
pub record Finds (m : Meaning) (ks : List ℕ) (st : State) (old : List ℕ) (r : Result (Option ℕ) Refusal) (new : List ℕ) (after : State) : Type 0 where
  pub stays : after ≡ st
  pub unmade : Unmade m st → (r ≡ Err WrongStore) × (new ≡ old)
  pub bad_keys : (mem : Memory) → Made m st mem → (Point m.widths ks → ⊥) → (r ≡ Err BadKeys) × (new ≡ old)
  pub goes : (mem : Memory) → Made m st mem → Point m.widths ks
      → FindsFrom m ks st (box_around m (tile_at (image_of mem.root) ks) ks) (tile_at (image_of mem.root) ks).page old r new

-- Handing out the record at a place of a page buffer, by the kind, the buffer and the place alone. The answer is a part of the buffer, whose bytes are told by `bytes`.
abbrev pub HandsOut : {A : Type 0} → (A → List ℕ) → Meaning → List ℕ → ℕ → Result A Refusal → Type 0
HandsOut bytes m buffer place (Ok part) = (place < m.capacity) × (bytes part ≡ record_at m buffer place)
HandsOut bytes m buffer place (Err e) = (m.capacity ≤ place) × (e ≡ BadKeys)

-- does the point ks lie in the range from ls to hs, both ends inside?
abbrev pub between : List ℕ → List ℕ → List ℕ → Bool
between [] hs ks = true
between (l ∷ ls) [] ks = false
between (l ∷ ls) (h ∷ hs) [] = false
between (l ∷ ls) (h ∷ hs) (k ∷ ks) = (nat_le l k && nat_le k h) && between ls hs ks

-- the records held in the range
abbrev pub in_range : Meaning → List ℕ → List ℕ → List (List ℕ) → List (List ℕ)
in_range m ls hs held = filter (λ r. between ls hs (keys_of m r)) held

-- Count.
pub record Counts (m : Meaning) (ls hs : List ℕ) (st : State) (r : Result ℕ Refusal) (after : State) : Type 0 where
  pub stays : after ≡ st
  pub unmade : Unmade m st → r ≡ Err WrongStore
  pub bad_range : (mem : Memory) → Made m st mem → (IsRange m.widths ls hs → ⊥) → r ≡ Err BadKeys
  pub counted : (held : List (List ℕ)) → Holds m st held → IsRange m.widths ls hs → r ≡ Ok (length (in_range m ls hs held))

-- the buffer begins with the records rs side by side, and the bytes behind them are as they were
abbrev pub SideBySide : List (List ℕ) → List ℕ → List ℕ → Type 0
SideBySide rs old new = new ≡ joined rs ++ drop (length (joined rs)) old

-- List: the same number, and the records side by side from the buffer's start, each one time.
pub record Lists (m : Meaning) (ls hs : List ℕ) (st : State) (old : List ℕ) (r : Result ℕ Refusal) (new : List ℕ) (after : State) : Type 0 where
  pub stays : after ≡ st
  pub refused : (e : Refusal) → r ≡ Err e → new ≡ old
  pub unmade : Unmade m st → r ≡ Err WrongStore
  pub bad_range : (mem : Memory) → Made m st mem → (IsRange m.widths ls hs → ⊥) → r ≡ Err BadKeys
  pub short : (held : List (List ℕ)) → Holds m st held → IsRange m.widths ls hs → length old < m.size * length (in_range m ls hs held)
      → r ≡ Err (ShortBuffer (m.size * length (in_range m ls hs held)))
  pub written : (held : List (List ℕ)) → Holds m st held → IsRange m.widths ls hs → m.size * length (in_range m ls hs held) ≤ length old
      → (r ≡ Ok (length (in_range m ls hs held))) × (rs : List (List ℕ)) × Same rs (in_range m ls hs held) × SideBySide rs old new

-- Shape: pages in use, directory boxes, leaf boxes.
pub record Shapes (m : Meaning) (st : State) (r : Result Shape Refusal) (after : State) : Type 0 where
  pub stays : after ≡ st
  pub unmade : Unmade m st → r ≡ Err WrongStore
  pub reported : (mem : Memory) → Made m st mem → r ≡ Ok (record { pages = 8 + mem.directories + mem.leaves; directories = mem.directories; leaves = mem.leaves })
