-- The promise over every run of calls.
use Rattle.std.specs.Prelude.{◌≡◌, ℕ, ◌+◌, ◌*◌, ◌<◌, ◌≤◌, Bool, if◌then◌else◌, List, [], ◌∷◌, length, Some, None, Ok, Err, Option, Result, nat_le}
use Rattle.boxes.specs.Cuts.{Path, In}
use Rattle.boxes.specs.Laws.{Number}
use Rattle.boxes.specs.Leaves.{Same}
use Rattle.boxes.specs.Points.{Point}
use Rattle.boxes.specs.Ranges.{IsRange}
use Rattle.boxes.specs.Space.{Lies}
use Rattle.buckets.specs.Bucket.{record_at}
use Rattle.kinds.specs.Meaning.{Meaning, Lawful}
use Rattle.promise.specs.Calls.{Held, Careful, Makes, Inserts, Deletes, Finds, in_range, Counts, SideBySide, Lists, Shapes}
use Rattle.promise.specs.Determined.{IsLeaf, IsDirectory, root_fits}
use Rattle.promise.specs.Runs.{Call, Step, Run, without, after_all, Applies, refused, Least}
use Rattle.promise.specs.State.{State, size_of, page, DirectoryAt, LeafAt, Stands}
use Rattle.promise.specs.declared.refusal.Refusal.{Refusal}
use Rattle.promise.specs.declared.refusal.Refusal.TheVariants.{RootFull, StoreFull}
use Rattle.promise.specs.declared.shape.Shape.{Shape}

-- The records determine d directory boxes and l leaf boxes.
pub record Boxes (m : Meaning) (held : List (List ℕ)) (d l : ℕ) : Type 0 where
  pub directories : Number (IsDirectory m held) d
  pub leaves : Number (IsLeaf m held) l

-- insert's answer to a record with new keys: whether the root takes the boxes, and whether the store has the pages needed
abbrev pub verdict : Bool → ℕ → ℕ → Result ℕ Refusal
verdict fits needed pages = if fits then (if nat_le needed pages then Ok needed else Err StoreFull) else Err RootFull

-- find's answer: the place in the buffer of the record held with these keys, or that none is held
abbrev pub Found : Meaning → List (List ℕ) → List ℕ → List ℕ → Result (Option ℕ) Refusal → Type 0
Found m held ks buffer (Ok (Some j)) = (j < m.capacity) × In (record_at m buffer j) held × (m.read (record_at m buffer j) ≡ Some ks)
Found m held ks buffer (Ok None) = Held m held ks → ⊥
Found m held ks buffer (Err e) = ⊥

-- every page but the two of the point ks, its directory page and its bucket page, may have other bytes in the other state
pub record AlikeAt (m : Meaning) (st other : State) (ks : List ℕ) : Type 0 where
  pub memory : other.memory ≡ st.memory
  pub as_many : size_of other ≡ size_of st
  pub directory_page : (b : Path) (pg : ℕ) → Point m.widths ks → Lies m.widths m.halvings b ks → DirectoryAt m st b pg → page other pg ≡ page st pg
  pub bucket_page : (b : Path) (pg : ℕ) → Point m.widths ks → Lies m.widths m.halvings b ks → LeafAt m st b pg → page other pg ≡ page st pg

-- What holds at one point of a run, with the records now held.
pub record Kept (m : Meaning) (st : State) (held : List (List ℕ)) : Type 0 where
  -- boxes exact, contents exact, a page for each box and no page for two
  pub stands : Stands m st held
  -- shape answers the numbers of boxes, and the pages: eight for the root and one for each box
  pub shapes : (r : Result Shape Refusal) (after : State) → Shapes m st r after
      → (d : ℕ) × (l : ℕ) × Boxes m held d l × (r ≡ Ok (record { pages = 8 + d + l; directories = d; leaves = l }))
  -- a record with new keys is refused exactly when the boxes determined with it would overfill the root or the pages
  pub refusals : (bytes ks : List ℕ) (r : Result ℕ Refusal) (after : State) → m.read bytes ≡ Some ks → (Held m held ks → ⊥) → Inserts m bytes st r after
      → (d : ℕ) × (l : ℕ) × Boxes m (bytes ∷ held) d l × (r ≡ verdict (root_fits m (bytes ∷ held)) (8 + d + l) (size_of st))
  -- a delete of a record held answers the pages needed without it
  pub deletions : (ks : List ℕ) (r : Result ℕ Refusal) (after : State) → Held m held ks → Deletes m ks st r after
      → (d : ℕ) × (l : ℕ) × Boxes m (without m ks held) d l × (r ≡ Ok (8 + d + l))
  -- any call is refused exactly when a refusal applies to it, and then with the smallest number
  pub smallest : (c : Call) (after : State) (s : Step m c st after) → Least (Applies m st held c) (refused s)
  -- a refused call leaves pages and memory alone; after any call a box that stays has its page still, and a page that is unused is as it was
  pub untouched : (c : Call) (after : State) (s : Step m c st after) (e : Refusal) → refused s ≡ Some e → after ≡ st
  pub careful : (c : Call) (after : State) → Step m c st after → Careful m st after
  -- a find with the keys of a point answers from the records held
  pub found : (ks old new : List ℕ) (r : Result (Option ℕ) Refusal) (after : State) → Point m.widths ks → Finds m ks st old r new after → Found m held ks new r
  -- count and list answer from the records held; list writes each one time, and leaves the bytes behind them
  pub counted : (ls hs : List ℕ) (r : Result ℕ Refusal) (after : State) → IsRange m.widths ls hs → Counts m ls hs st r after → r ≡ Ok (length (in_range m ls hs held))
  pub listings : (ls hs old new : List ℕ) (r : Result ℕ Refusal) (after : State) → IsRange m.widths ls hs → m.size * length (in_range m ls hs held) ≤ length old
      → Lists m ls hs st old r new after → (r ≡ Ok (length (in_range m ls hs held))) × (rs : List (List ℕ)) × Same rs (in_range m ls hs held) × SideBySide rs old new
  -- a find answers alike whatever other bytes every page but two is given: the directory page and the bucket page of its point
  pub two_pages : (other : State) (ks : List ℕ) → AlikeAt m st other ks
      → (old new new' : List ℕ) (r r' : Result (Option ℕ) Refusal) (after after' : State) → Finds m ks st old r new after → Finds m ks other old r' new' after' → (r ≡ r') × (new ≡ new')

-- what holds for ever of a grid just made
abbrev pub Lasting : Meaning → State → Type 0
Lasting m st = (cs : List Call) (after : State) → Run m st cs after → Kept m after (after_all m (size_of st) cs [])

-- the promise, for any kind and any pages
abbrev pub EveryRun : Type 0
EveryRun = (m : Meaning) → Lawful m → (st made : State) → Makes m st (Ok 10) made → Lasting m made

-- The line on the data sheet: two runs that end with the same set of records report the same shape, whatever came and went, and in whatever stores.
abbrev pub SameShape : Type 0
SameShape = (m : Meaning) → Lawful m → (st made other made' : State) → Makes m st (Ok 10) made → Makes m other (Ok 10) made'
    → (cs ds : List Call) (after after' end end' : State) → Run m made cs after → Run m made' ds after'
    → Same (after_all m (size_of made) cs []) (after_all m (size_of made') ds [])
    → (r r' : Result Shape Refusal) → Shapes m after r end → Shapes m after' r' end' → r ≡ r'
