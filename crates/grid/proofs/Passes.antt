-- What a walk passes: one record more, the records of a bucket, and those of both halves.
use Rattle.std.proofs.Common.{◌≡◌, ℕ, ◌+◌, ◌-◌, ◌^◌, ◌<◌, ◌≤◌, min, Bool, true, false, cond, List, [], length, get_or, take, filter, Ok, Result, sym, refl, ap, subst, arith, length-append}
use Rattle.boxes.specs.Cuts.{Path, half}
use Rattle.boxes.specs.GridBoxes.{box_of, IsBox}
use Rattle.boxes.specs.Leaves.{tally}
use Rattle.boxes.specs.declared.grid_box.GridBox.{GridBox}
use Rattle.images.specs.Bytes.{joined}
use Rattle.kinds.specs.Meaning.{Meaning}
use Rattle.promise.specs.declared.refusal.Refusal.{Refusal}
use Rattle.grid.specs.Walks.{wanted, capped, OfKind, Written, Laid, PassedBucket, PassedHeld}
use Rattle.grid.specs.declared.passed.Passed.{Passed}
use Rattle.grid.proofs.Halved.{tally_more}
use Rattle.grid.proofs.OfLists.{more_kept, none_kept, written_more, laid_none, laid_halves}
use Rattle.grid.proofs.OfWalks.{wanted_halves}
use Rattle.grid.proofs.Somes.{same_answer}

-- one record of a bucket more
module _ (f : List ℕ → Bool) (rs : List (List ℕ)) (i : ℕ) (here : i < length rs) (p : Passed) (old : List ℕ) (q : Passed) (mid : List ℕ) (long : length mid ≡ length old) (so_far : PassedBucket f (take i rs) p old q mid) where
  pub passed_more : f (get_or rs i []) ≡ true → (n e : ℕ) (new : List ℕ) → n ≡ min (q.number + 1) (2 ^ 64 - 1) → (q.end + length (get_or rs i []) ≤ length mid → Written q.end (get_or rs i []) e mid new)
      → PassedBucket f (take (i + 1) rs) p old (record { number = n; end = e }) new
  passed_more t n e new count put =
      let before = joined (filter f (take i rs)) in
      let more = more_kept f rs i here t in
      let sum = length-append before (get_or rs i []) in (
        omega (arith, count, so_far.0, tally_more f [] rs i here, ap (λ s. cond {A = ℕ} s 1 0) t),
        λ room.
            let one = so_far.1 (omega (arith, room, ap length more, sum)) in
            let two = put (omega (arith, room, ap length more, sum, one.0, long)) in
            subst (λ (z : List ℕ). Written p.end z e old new) (sym more) (written_more p.end q.end e before (get_or rs i []) old mid new one two),
      )

  pub passed_same : f (get_or rs i []) ≡ false → PassedBucket f (take (i + 1) rs) p old q mid
  passed_same t =
      let same = none_kept f rs i here t in (
        omega (arith, so_far.0, tally_more f [] rs i here, ap (λ s. cond {A = ℕ} s 1 0) t),
        λ room. subst (λ (z : List ℕ). Written p.end z q.end old mid) (sym same) (so_far.1 (omega (arith, room, ap length same))),
      )

module _ (m : Meaning) (ls hs : List ℕ) where
  -- nothing is wanted
  pub passed_none : (b : Path) (held : List (List ℕ)) (p : Passed) (old : List ℕ) → p.number < 2 ^ 64 → tally (wanted m ls hs b) held ≡ 0 → PassedHeld m ls hs b held p old (Ok p) old
  passed_none b held p old fits none = (p, refl, omega (arith, none, fits), laid_none m ls hs b held p.end old none)

  -- both halves
  pub passed_halves : (g lower upper : GridBox) (held : List (List ℕ)) (p q : Passed) (old mid new : List ℕ) (r : Result Passed Refusal) → length mid ≡ length old → OfKind m g.space.now → g.level < g.space.now.depth
      → IsBox g.space.now (half (box_of g) false) lower → IsBox g.space.now (half (box_of g) true) upper
      → PassedHeld m ls hs (box_of lower) held p old (Ok q) mid → PassedHeld m ls hs (box_of upper) held q mid r new → PassedHeld m ls hs (box_of g) held p old r new
  passed_halves g lower upper held p q old mid new r long k l a b v w =
      let same : v.0 ≡ q = same_answer v.0 q (sym v.1) in
      let one : q.number ≡ capped (p.number + tally (wanted m ls hs (box_of lower)) held) = subst (λ (z : Passed). z.number ≡ capped (p.number + tally (wanted m ls hs (box_of lower)) held)) same v.2 in
      let laid = subst (λ (z : Passed). Laid m ls hs (box_of lower) held p.end z.end old mid) same v.3 in (
        w.0,
        w.1,
        omega (arith, w.2, one, wanted_halves m ls hs g lower upper held k l a b),
        laid_halves m ls hs g lower upper held p.end q.end w.0.end old mid new long k l a b laid w.3,
      )
