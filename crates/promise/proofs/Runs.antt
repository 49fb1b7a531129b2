-- Over every run.
use Rattle.std.proofs.Common.{◌≡◌, ℕ, ◌+◌, List, [], length, Ok, Err, Result, sym, refl, ap, ◌∙◌, subst, inl, inr, arith}
use Rattle.boxes.specs.Cuts.{Path}
use Rattle.boxes.specs.Directories.{directories}
use Rattle.promise.specs.declared.shape.Shape.{Shape}
use Rattle.boxes.proofs.Changes.{same_map}
use Rattle.std.proofs.lemmas.Bool.{cases_lt}
use Rattle.kinds.specs.Meaning.{Meaning, Lawful}
use Rattle.promise.specs.State.{State, size_of}
use Rattle.promise.specs.Calls.{Holds, Makes}
use Rattle.promise.specs.Runs.{Call, Run, after_one, after_all}
use Rattle.promise.specs.Runs.Run.{over, next}
use Rattle.promise.specs.Promise.{Kept, EveryRun, SameShape}
use Rattle.promise.specs.Determined.{keys_of, points, leaf_boxes}
use Rattle.promise.specs.declared.refusal.Refusal.{Refusal}
use Rattle.promise.specs.declared.refusal.Refusal.TheVariants.{WrongStore}
use Rattle.promise.proofs.Pages.{Below}
use Rattle.promise.proofs.Found.{found, two_pages}
use Rattle.promise.proofs.Steps.{shape_is, shapes_right, refusals_right, deletions_right, least, keeps, careful_right, untouched_right}

pub kept : Below → (m : Meaning) → Lawful m → (st : State) (held : List (List ℕ)) → Holds m st held → Kept m st held
kept below m law st held h = record {
  stands = h.stands;
  shapes = shapes_right below m law st held h;
  refusals = refusals_right below m law st held h;
  deletions = deletions_right below m law st held h;
  counted = λ ls hs r after p k. k.counted held h p;
  listings = λ ls hs old new r after p l k. k.written held h p l;
  smallest = least below m law st held h;
  untouched = untouched_right m st;
  careful = careful_right below m law st held h;
  found = found below m law st held h;
  two_pages = two_pages below m law st held h;
}

runs : Below → (m : Meaning) → Lawful m → (n : ℕ) (st : State) (cs : List Call) (after : State) → Run m st cs after → (held : List (List ℕ)) → size_of st ≡ n → Holds m st held → Holds m after (after_all m n cs held)
runs below m law n st cs after over held e h = h
runs below m law n st cs after (next {mid = mid} {c = c} {cs = ds} s r) held e h =
    let k = keeps below m law st held h c mid s in
    runs below m law n mid ds after r (after_one m n c held) (k.1 ∙ e) (subst (λ x. Holds m mid (after_one m x c held)) e k.0)

ok_not : (n : ℕ) (e : Refusal) → ◌≡◌ {A = Result ℕ Refusal} (Ok n) (Err e) → ⊥
ok_not n e p = let z : ◌≡◌ {A = ℕ} 0 1 = cc in omega arith

-- after a run from a new grid the pages and the memory stand for the records that the calls leave
pub run_holds : Below → (m : Meaning) → Lawful m → (st made : State) → Makes m st (Ok 10) made → (cs : List Call) (after : State) → Run m made cs after → Holds m after (after_all m (size_of made) cs [])
run_holds below m law st made mk cs after run = elim (cases_lt (size_of st) 10) [
  | inl l ↦ absurd (ok_not 10 WrongStore (mk.refused (inl l)).0)
  | inr l ↦ elim (cases_lt 32768 (size_of st)) [
    | inl k ↦ absurd (ok_not 10 WrongStore (mk.refused (inr k)).0)
    | inr k ↦ runs below m law (size_of made) made cs after run [] refl (mk.made l k).1
  ]
]

pub every_run : Below → EveryRun
every_run below m law st made mk cs after run = kept below m law after (after_all m (size_of made) cs []) (run_holds below m law st made mk cs after run)

-- lists of the same records have the same boxes
pub same_shape : Below → SameShape
same_shape below m law st made other made' mk mk' cs ds after after' end end' run run' same r r' s s' =
    let h = run_holds below m law st made mk cs after run in
    let h' = run_holds below m law other made' mk' ds after' run' in
    let held = after_all m (size_of made) cs [] in
    let held' = after_all m (size_of made') ds [] in
    let e : leaf_boxes m held ≡ leaf_boxes m held' =
    (below.orders m.widths m.halvings m.capacity (points m held) (points m held') (same_map (keys_of m) held held' same)).0 in
    shape_is below m law after held h r end s ∙ ap (λ (bs : List Path). shape_by m bs) e ∙ sym (shape_is below m law after' held' h' r' end' s')
  where
    shape_by : Meaning → List Path → Result Shape Refusal
    shape_by m bs = Ok (record { pages = 8 + length (directories m.widths m.halvings bs) + length bs; directories = length (directories m.widths m.halvings bs); leaves = length bs })
