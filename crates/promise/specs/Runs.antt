-- Calls one after the other, the records held after them, and when a call is refused.
use Rattle.std.specs.Prelude.{◌≡◌, ℕ, ◌*◌, ◌<◌, ◌≤◌, Bool, true, false, if◌then◌else◌, not, ◌&&◌, List, [], ◌∷◌, length, is_some, Some, None, Ok, Err, filter, Option, Result, ◌==◌, nat_le}
use Rattle.boxes.specs.Leaves.{tally}
use Rattle.boxes.specs.Points.{Point}
use Rattle.boxes.specs.Ranges.{IsRange}
use Rattle.kinds.specs.Meaning.{Meaning}
use Rattle.promise.specs.Calls.{Unmade, Held, Inserts, Deletes, Finds, in_range, Counts, Lists, Shapes}
use Rattle.promise.specs.Determined.{keys_of, root_fits, pages_needed}
use Rattle.promise.specs.Refusals.{number}
use Rattle.promise.specs.State.{State, size_of}
use Rattle.promise.specs.declared.refusal.Refusal.{Refusal}
use Rattle.promise.specs.declared.refusal.Refusal.TheVariants.{WrongStore, NotARecord, BadKeys, AlreadyHeld, NotHeld, RootFull, StoreFull, ShortBuffer}
use Rattle.promise.specs.declared.shape.Shape.{Shape}

-- a call with its arguments; buffer is what the caller's buffer holds
pub data Call : Type 0 where
  insert : (bytes : List ℕ) → Call
  delete : (ks : List ℕ) → Call
  find : (ks buffer : List ℕ) → Call
  count : (ls hs : List ℕ) → Call
  list : (ls hs buffer : List ℕ) → Call
  shape : Call

-- one call, as its contract has it
pub data Step (m : Meaning) : Call → State → State → Type 0 where
  inserts : {bytes : List ℕ} {st after : State} (r : Result ℕ Refusal) → Inserts m bytes st r after → Step m (insert bytes) st after
  deletes : {ks : List ℕ} {st after : State} (r : Result ℕ Refusal) → Deletes m ks st r after → Step m (delete ks) st after
  finds : {ks old : List ℕ} {st after : State} (r : Result (Option ℕ) Refusal) (new : List ℕ) → Finds m ks st old r new after → Step m (find ks old) st after
  counts : {ls hs : List ℕ} {st after : State} (r : Result ℕ Refusal) → Counts m ls hs st r after → Step m (count ls hs) st after
  lists : {ls hs old : List ℕ} {st after : State} (r : Result ℕ Refusal) (new : List ℕ) → Lists m ls hs st old r new after → Step m (list ls hs old) st after
  shapes : {st after : State} (r : Result Shape Refusal) → Shapes m st r after → Step m shape st after

-- calls one after the other
pub data Run (m : Meaning) : State → List Call → State → Type 0 where
  over : {st : State} → Run m st [] st
  next : {st mid after : State} {c : Call} {cs : List Call} → Step m c st mid → Run m mid cs after → Run m st (c ∷ cs) after

-- are the lists equal?
abbrev pub same_numbers : List ℕ → List ℕ → Bool
same_numbers [] [] = true
same_numbers [] (y ∷ ys) = false
same_numbers (x ∷ xs) [] = false
same_numbers (x ∷ xs) (y ∷ ys) = x == y && same_numbers xs ys

-- does the record have these keys?
abbrev pub keyed : Meaning → List ℕ → List ℕ → Bool
keyed m ks r = same_numbers ks (keys_of m r)

-- insert adds its record unless it is none, its keys are held, or root or pages would overfill
abbrev pub accepts : Meaning → ℕ → List ℕ → List (List ℕ) → Bool
accepts m n bytes held =
    is_some (m.read bytes) && (tally (keyed m (keys_of m bytes)) held == 0 && (root_fits m (bytes ∷ held) && nat_le (pages_needed m (bytes ∷ held)) n))

-- the records but the one with these keys
abbrev pub without : Meaning → List ℕ → List (List ℕ) → List (List ℕ)
without m ks held = filter (λ r. not (keyed m ks r)) held

-- the records held after a call, in a store of n pages
abbrev pub after_one : Meaning → ℕ → Call → List (List ℕ) → List (List ℕ)
after_one m n (insert bytes) held = if accepts m n bytes held then bytes ∷ held else held
after_one m n (delete ks) held = without m ks held
after_one m n (find ks buffer) held = held
after_one m n (count ls hs) held = held
after_one m n (list ls hs buffer) held = held
after_one m n shape held = held

-- and after a run of calls
abbrev pub after_all : Meaning → ℕ → List Call → List (List ℕ) → List (List ℕ)
after_all m n [] held = held
after_all m n (c ∷ cs) held = after_all m n cs (after_one m n c held)

-- When a refusal applies to a call, over pages that stand for the records held.
-- (NoSuchPage and BrokenPage have no line: there every page that is read is in the store and keeps its layout.)
pub data Applies (m : Meaning) (st : State) (held : List (List ℕ)) : Call → Refusal → Type 0 where
  other_store : {c : Call} → Unmade m st → Applies m st held c WrongStore
  no_record : {bytes : List ℕ} → m.read bytes ≡ None → Applies m st held (insert bytes) NotARecord
  delete_at : {ks : List ℕ} → (Point m.widths ks → ⊥) → Applies m st held (delete ks) BadKeys
  find_at : {ks old : List ℕ} → (Point m.widths ks → ⊥) → Applies m st held (find ks old) BadKeys
  count_over : {ls hs : List ℕ} → (IsRange m.widths ls hs → ⊥) → Applies m st held (count ls hs) BadKeys
  list_over : {ls hs old : List ℕ} → (IsRange m.widths ls hs → ⊥) → Applies m st held (list ls hs old) BadKeys
  held_already : {bytes : List ℕ} (ks : List ℕ) → m.read bytes ≡ Some ks → Held m held ks → Applies m st held (insert bytes) AlreadyHeld
  not_held : {ks : List ℕ} → (Held m held ks → ⊥) → Applies m st held (delete ks) NotHeld
  root_full : {bytes : List ℕ} (ks : List ℕ) → m.read bytes ≡ Some ks → root_fits m (bytes ∷ held) ≡ false → Applies m st held (insert bytes) RootFull
  store_full : {bytes : List ℕ} (ks : List ℕ) → m.read bytes ≡ Some ks → size_of st < pages_needed m (bytes ∷ held) → Applies m st held (insert bytes) StoreFull
  short_buffer : {ls hs old : List ℕ} → IsRange m.widths ls hs → length old < m.size * length (in_range m ls hs held)
      → Applies m st held (list ls hs old) (ShortBuffer (m.size * length (in_range m ls hs held)))

-- how an answer was refused
abbrev pub refusal : {A : Type 0} → Result A Refusal → Option Refusal
refusal (Ok a) = None
refusal (Err e) = Some e

-- how a call was refused
abbrev pub refused : {m : Meaning} {c : Call} {st after : State} → Step m c st after → Option Refusal
refused (inserts r i) = refusal r
refused (deletes r d) = refusal r
refused (finds r new f) = refusal r
refused (counts r k) = refusal r
refused (lists r new l) = refusal r
refused (shapes r s) = refusal r

-- none applies; or this one does, and no other with a smaller number
abbrev pub Least : (Refusal → Type 0) → Option Refusal → Type 0
Least A None = (e : Refusal) → A e → ⊥
Least A (Some e) = A e × ((d : Refusal) → A d → number e ≤ number d)
