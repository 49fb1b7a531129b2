-- lists of pages that are written to
use Rattle.std.proofs.Common.{◌≡◌, ℕ, ◌<◌, true, List, [], length, set, is_ok, Ok, Err, Result, refl, ap, ◌∙◌, ⊎_elim, arith}
use Rattle.std.proofs.lemmas.List.{length-set, get_or-set_same, get_or-set_other}
use Rattle.std.proofs.lemmas.Bool.{cases_eq}
use Rattle.stores.specs.declared.NoSuchPage.{NoSuchPage}
use Rattle.stores.specs.Pages.{Whole, Fetched, Stored}

-- a write to a page of the list is not refused
pub stored_ok : {U : Type 0} (ps qs : List (List ℕ)) (p : ℕ) (b : List ℕ) (r : Result U NoSuchPage) → Stored ps qs p b r → p < length ps → is_ok r ≡ true
stored_ok ps qs p b (Ok _) s h = refl
stored_ok ps qs p b (Err _) s h = absurd (omega (arith, s.0))

-- nor is a read
pub fetched_ok : {U : Type 0} (ps : List (List ℕ)) (p : ℕ) (old new : List ℕ) (r : Result U NoSuchPage) → Fetched ps p old new r → p < length ps → is_ok r ≡ true
fetched_ok ps p old new (Ok _) f h = refl
fetched_ok ps p old new (Err _) f h = absurd (omega (arith, f.0))

-- a write keeps the number of pages
pub stored_length : {U : Type 0} (ps qs : List (List ℕ)) (p : ℕ) (b : List ℕ) (r : Result U NoSuchPage) → Stored ps qs p b r → length qs ≡ length ps
stored_length ps qs p b (Ok _) s = ap length s.1 ∙ length-set ps p b
stored_length ps qs p b (Err _) s = ap length s.1

-- a page of 512 bytes keeps the list whole
pub whole_set : (ps : List (List ℕ)) (p : ℕ) (b : List ℕ) → Whole ps → length b ≡ 512 → Whole (set ps p b)
whole_set ps p b w e q h =
    let l : q < length ps = rw length-set at h in
    ⊎_elim
    (λ same. let k : p < length ps = rw same at l in
    rw same (rw get_or-set_same e))
    (λ ne. rw (get_or-set_other ps p q b [] ne) (w q l))
    (cases_eq q p)
