-- What count and list do, from the walk over the whole space.
use Rattle.std.proofs.Common.{◌≡◌, ℕ, ◌*◌, ◌<◌, ◌≤◌, List, [], length, Ok, Err, Result, refl, ap, inl, inr, arith}
use Rattle.std.proofs.Math.Path.{subst₃}
use Rattle.boxes.specs.GridBoxes.{box_of}
use Rattle.boxes.specs.KeyRanges.{lowest_of, highest_of}
use Rattle.boxes.specs.Leaves.{Same}
use Rattle.boxes.specs.declared.grid_box.GridBox.{GridBox}
use Rattle.boxes.specs.declared.key_range.KeyRange.{KeyRange}
use Rattle.kinds.specs.Meaning.{Meaning, Lawful}
use Rattle.promise.specs.Calls.{Holds, Counts, Lists, SideBySide, in_range}
use Rattle.promise.specs.State.{State}
use Rattle.promise.specs.declared.memory.Memory.{Memory}
use Rattle.promise.specs.declared.refusal.Refusal.{Refusal}
use Rattle.promise.specs.declared.refusal.Refusal.TheVariants.{ShortBuffer}
use Rattle.grid.specs.Walks.{Laid, Passes, PassedHeld, Begun, NotBegun}
use Rattle.grid.specs.declared.passed.Passed.{Passed}
use Rattle.grid.proofs.OfLists.{same_range, range_long, side_by_side}

module _ (m : Meaning) (st : State) (ls hs : List ℕ) where
  -- no walk begins
  pub not_counted : (e : Refusal) → NotBegun m st ls hs e → Counts m ls hs st (Err e) st
  not_counted e (inl (none, is)) = record { stays = refl; unmade = λ _. ap {B = Result ℕ Refusal} (λ x. Err x) is; bad_range = λ mem k _. absurd (none mem k); counted = λ held h _. absurd (none h.mem h.made) }
  not_counted e (inr (mem, made, none, is)) = record {
    stays = refl;
    unmade = λ u. absurd (u mem made);
    bad_range = λ _ _ _. ap {B = Result ℕ Refusal} (λ x. Err x) is;
    counted = λ held h k. absurd (none k);
  }

  pub not_listed : (e : Refusal) (old : List ℕ) → NotBegun m st ls hs e → Lists m ls hs st old (Err e) old st
  not_listed e old (inl (none, is)) = record {
    stays = refl;
    refused = λ _ _. refl;
    unmade = λ _. ap {B = Result ℕ Refusal} (λ x. Err x) is;
    bad_range = λ mem k _. absurd (none mem k);
    short = λ held h _ _. absurd (none h.mem h.made);
    written = λ held h _ _. absurd (none h.mem h.made);
  }
  not_listed e old (inr (mem, made, none, is)) = record {
    stays = refl;
    refused = λ _ _. refl;
    unmade = λ u. absurd (u mem made);
    bad_range = λ _ _ _. ap {B = Result ℕ Refusal} (λ x. Err x) is;
    short = λ held h k _. absurd (none k);
    written = λ held h k _. absurd (none k);
  }

  module _ (mem : Memory) (range : KeyRange) (g : GridBox) (begun : Begun m st ls hs mem range g) where
    -- over the pages as they are, the walk passes the records held in the range
    pub walked : (ps : List (List ℕ)) → st.pages ≡ ps → (p : Passed) (old : List ℕ) (r : Result Passed Refusal) (new : List ℕ) → Passes m ps mem (lowest_of range) (highest_of range) (box_of g) p old r new
        → (held : List (List ℕ)) → Holds m st held → PassedHeld m ls hs [] held p old r new
    walked ps same p old r new passes held h =
        subst₃ (λ lo hi b. PassedHeld m lo hi b held p old r new) begun.lowest begun.highest begun.whole (passes st held same begun.made.is h)

    pub counts_by : (r : Result ℕ Refusal) (after : State) → after ≡ st → ((held : List (List ℕ)) → Holds m st held → r ≡ Ok (length (in_range m ls hs held))) → Counts m ls hs st r after
    counts_by r after stays counted =
        record { stays = stays; unmade = λ u. absurd (u mem begun.made); bad_range = λ _ _ n. absurd (n begun.ranged); counted = λ held h _. counted held h }

    pub lists_by : (old : List ℕ) (r : Result ℕ Refusal) (new : List ℕ) (after : State) → after ≡ st → ((e : Refusal) → r ≡ Err e → new ≡ old)
        → ((held : List (List ℕ)) → Holds m st held → length old < m.size * length (in_range m ls hs held) → r ≡ Err (ShortBuffer (m.size * length (in_range m ls hs held))))
        → ((held : List (List ℕ)) → Holds m st held → m.size * length (in_range m ls hs held) ≤ length old → (r ≡ Ok (length (in_range m ls hs held))) × (rs : List (List ℕ)) × Same rs (in_range m ls hs held) × SideBySide rs old new)
        → Lists m ls hs st old r new after
    lists_by old r new after stays refused short written = record {
      stays = stays;
      refused = refused;
      unmade = λ u. absurd (u mem begun.made);
      bad_range = λ _ _ n. absurd (n begun.ranged);
      short = λ held h _. short held h;
      written = λ held h _. written held h;
    }

  -- what is written from the start of the buffer on are the records in the range, where there is room for them
  pub written_whole : Lawful m → (held : List (List ℕ)) → Holds m st held → (q : Passed) (old new : List ℕ) → Laid m ls hs [] held 0 q.end old new → m.size * length (in_range m ls hs held) ≤ length old
      → (rs : List (List ℕ)) × Same rs (in_range m ls hs held) × SideBySide rs old new
  written_whole law held h q old new laid room =
      let long = range_long m ls hs law st held h laid.0 laid.1 in
      (laid.0, same_range m ls hs law st held h laid.0 laid.1, side_by_side laid.0 q.end old new (laid.2 (omega (arith, long, room))))
