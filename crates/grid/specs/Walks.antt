-- The records of a range, box by box.
-- In all of it m is the meaning of the kind, ls and hs are the lowest and highest values of a range, and b is a box.
use Rattle.std.specs.Prelude.{◌≡◌, ℕ, ◌+◌, ◌-◌, ◌^◌, ◌≤◌, min, Bool, true, ◌&&◌, ◌⊎◌, List, [], ◌++◌, length, take, drop, filter, Some, Ok, Result}
use Rattle.boxes.specs.Cuts.{Path, around}
use Rattle.boxes.specs.GridBoxes.{box_of}
use Rattle.boxes.specs.Leaves.{tally}
use Rattle.boxes.specs.KeyRanges.{lowest_of, highest_of}
use Rattle.boxes.specs.Points.{path}
use Rattle.boxes.specs.Ranges.{IsRange}
use Rattle.boxes.specs.Spaces.{widths_of, order_of}
use Rattle.boxes.specs.declared.grid_box.GridBox.{GridBox}
use Rattle.boxes.specs.declared.key_range.KeyRange.{KeyRange}
use Rattle.boxes.specs.declared.space.Space.{Space}
use Rattle.images.specs.Bytes.{joined}
use Rattle.images.specs.Checking.{LawfulIn}
use Rattle.images.specs.Directory.{Image}
use Rattle.kinds.specs.Meaning.{Meaning}
use Rattle.promise.specs.Calls.{Made, Unmade, Holds, between}
use Rattle.promise.specs.Determined.{keys_of}
use Rattle.promise.specs.State.{State, page, DirectoryBytes, DirectoryAt}
use Rattle.promise.specs.declared.memory.Memory.{Memory}
use Rattle.promise.specs.declared.refusal.Refusal.{Refusal}
use Rattle.promise.specs.declared.refusal.Refusal.TheVariants.{WrongStore, BadKeys}
use Rattle.grid.specs.declared.opened.Opened.{Opened}
use Rattle.grid.specs.declared.passed.Passed.{Passed}

-- does the record lie in the box and in the range?
abbrev pub wanted : Meaning → List ℕ → List ℕ → Path → List ℕ → Bool
wanted m ls hs b r = around b (path m.widths m.halvings (keys_of m r)) && between ls hs (keys_of m r)

-- a sum that stops at the largest number of a machine word
abbrev pub capped : ℕ → ℕ
capped n = min n (2 ^ 64 - 1)

-- the space has the keys of the kind
abbrev pub OfKind : Meaning → Space → Type 0
OfKind m s = (widths_of s ≡ m.widths) × (order_of s ≡ m.halvings)

-- g lies in the directory box, which is read with a lawful image, in a store of n pages
pub record Under (n : ℕ) (d : Opened) (g : GridBox) : Type 0 where
  pub space : d.inner.space.now ≡ g.space.now
  pub size : d.pages ≡ n
  pub lawful : LawfulIn d.inner d.pages d.image
  pub inside : around (box_of d.inner) (box_of g) ≡ true

-- img is the image in the page of the directory box d
abbrev pub Reads : Meaning → State → Path → Image → Type 0
Reads m st d img = (pg : ℕ) × DirectoryAt m st d pg × DirectoryBytes m st d img (page st pg)

-- the bytes stand in the buffer from `start` to `end`, what stood before them still does, and nothing behind them is changed
abbrev pub Written : ℕ → List ℕ → ℕ → List ℕ → List ℕ → Type 0
Written start bytes end old new = (end ≡ start + length bytes) × (take end new ≡ take start old ++ bytes) × (drop end new ≡ drop end old)

-- rs are the records held in the box and in the range, each one time: as many of them pass any test
abbrev pub Chosen : Meaning → List ℕ → List ℕ → Path → List (List ℕ) → List (List ℕ) → Type 0
Chosen m ls hs b held rs = (f : List ℕ → Bool) → tally f rs ≡ tally (λ r. around b (path m.widths m.halvings (keys_of m r)) && (between ls hs (keys_of m r) && f r)) held

-- these records are written side by side where there is room for them
abbrev pub Laid : Meaning → List ℕ → List ℕ → Path → List (List ℕ) → ℕ → ℕ → List ℕ → List ℕ → Type 0
Laid m ls hs b held start end old new = (rs : List (List ℕ)) × Chosen m ls hs b held rs × (start + length (joined rs) ≤ length old → Written start (joined rs) end old new)

-- those of the records rs that pass the test are counted on, and written on where there is room for them: a walk that had passed p has then passed q
abbrev pub PassedBucket : (List ℕ → Bool) → List (List ℕ) → Passed → List ℕ → Passed → List ℕ → Type 0
PassedBucket f rs p old q new = (q.number ≡ capped (p.number + tally f rs)) × (p.end + length (joined (filter f rs)) ≤ length old → Written p.end (joined (filter f rs)) q.end old new)

-- the same of the records held in the box and in the range, each passed one time, and the walk is not refused
abbrev pub PassedHeld : Meaning → List ℕ → List ℕ → Path → List (List ℕ) → Passed → List ℕ → Result Passed Refusal → List ℕ → Type 0
PassedHeld m ls hs b held p old r new = (q : Passed) × (r ≡ Ok q) × (q.number ≡ capped (p.number + tally (wanted m ls hs b) held)) × Laid m ls hs b held p.end q.end old new

-- over pages that stand for a set, its records in the box and in the range are passed
abbrev pub Passes : Meaning → List (List ℕ) → Memory → List ℕ → List ℕ → Path → Passed → List ℕ → Result Passed Refusal → List ℕ → Type 0
Passes m ps mem ls hs b p old r new = (st : State) (held : List (List ℕ)) → st.pages ≡ ps → st.memory ≡ Some mem → Holds m st held → PassedHeld m ls hs b held p old r new

-- the same by the image of the directory box d
abbrev pub PassesUnder : Meaning → List (List ℕ) → List ℕ → List ℕ → Path → Image → Path → Passed → List ℕ → Result Passed Refusal → List ℕ → Type 0
PassesUnder m ps ls hs d img b p old r new = (st : State) (held : List (List ℕ)) → st.pages ≡ ps → Holds m st held → Reads m st d img → PassedHeld m ls hs b held p old r new

-- a walk over the pages of a made grid begins at the whole space, with the range from ls to hs
pub record Begun (m : Meaning) (st : State) (ls hs : List ℕ) (mem : Memory) (range : KeyRange) (g : GridBox) : Type 0 where
  pub made : Made m st mem
  pub ranged : IsRange m.widths ls hs
  pub lowest : lowest_of range ≡ ls
  pub highest : highest_of range ≡ hs
  pub whole : box_of g ≡ []

-- no walk begins: the grid is not made, or the two lists are no range of the kind's space
abbrev pub NotBegun : Meaning → State → List ℕ → List ℕ → Refusal → Type 0
NotBegun m st ls hs e = (Unmade m st × (e ≡ WrongStore)) ⊎ ((mem : Memory) × Made m st mem × (IsRange m.widths ls hs → ⊥) × (e ≡ BadKeys))
