-- Each call: whether it is refused, with which number, and the records held after it.
use Rattle.std.proofs.Common.{◌≡◌, ℕ, ◌+◌, ◌*◌, ◌<◌, ◌≤◌, Bool, true, false, ◌&&◌, eqb, leb, ◌⊎◌, List, ◌∷◌, length, is_some, Some, None, Ok, Err, Option, Result, sym, refl, ap, ◌∙◌, subst, inl, inr, arith}
use Rattle.std.proofs.lemmas.Bool.{cases_lt, and_left, and_right, and_from, eq-eqb, ne_eqb, le-leb, lt-leb, cond-true, cond-false}
use Rattle.boxes.specs.Cuts.{In}
use Rattle.boxes.specs.Points.{Point}
use Rattle.boxes.specs.Ranges.{IsRange}
use Rattle.boxes.specs.Leaves.{tally, Distinct}
use Rattle.kinds.specs.Meaning.{Meaning, Lawful}
use Rattle.promise.specs.Determined.{keys_of, points, root_fits, pages_needed, leaf_boxes, directory_boxes}
use Rattle.promise.specs.State.{State, size_of}
use Rattle.promise.specs.Calls.{Unmade, Holds, Held, Careful, Inserts, Deletes, Shapes, in_range}
use Rattle.promise.specs.Refusals.{number}
use Rattle.promise.specs.declared.shape.Shape.{Shape}
use Rattle.promise.specs.Runs.{Call, Step, keyed, accepts, without, after_one, Applies, refusal, refused, Least}
use Rattle.promise.specs.Runs.Call.{insert, delete, find, count, list, shape}
use Rattle.promise.specs.Runs.Step.{inserts, deletes, finds, counts, lists, shapes}
use Rattle.promise.specs.Runs.Applies.{other_store, no_record, delete_at, find_at, count_over, list_over, held_already, not_held, root_full, store_full, short_buffer}
use Rattle.promise.specs.Promise.{Boxes, verdict}
use Rattle.promise.specs.declared.refusal.Refusal.{Refusal}
use Rattle.promise.specs.declared.refusal.Refusal.TheVariants.{NoSuchPage, WrongStore, NotARecord, BadKeys, BrokenPage, AlreadyHeld, NotHeld, RootFull, StoreFull, ShortBuffer}
use Rattle.boxes.proofs.Cuts.{in_map_back}
use Rattle.promise.proofs.Lists.{same_true, same_from, in_tally, tally_in, kept_all, taken_out}
use Rattle.promise.proofs.Tests.{tell_point, tell_range}
use Rattle.promise.proofs.Pages.{Below, at, answer, keys_are, all_points, names}

at_most : (e : Refusal) → number e ≤ 10
at_most NoSuchPage = omega arith
at_most WrongStore = omega arith
at_most NotARecord = omega arith
at_most BadKeys = omega arith
at_most (BrokenPage pg) = omega arith
at_most AlreadyHeld = omega arith
at_most NotHeld = omega arith
at_most RootFull = omega arith
at_most StoreFull = omega arith
at_most (ShortBuffer n) = omega arith

data InsertCase (m : Meaning) (n : ℕ) (bytes : List ℕ) (held : List (List ℕ)) : Type 0 where
  none : m.read bytes ≡ None → InsertCase m n bytes held
  twice : (ks : List ℕ) → m.read bytes ≡ Some ks → Held m held ks → InsertCase m n bytes held
  no_root : (ks : List ℕ) → m.read bytes ≡ Some ks → (Held m held ks → ⊥) → root_fits m (bytes ∷ held) ≡ false → InsertCase m n bytes held
  no_room : (ks : List ℕ) → m.read bytes ≡ Some ks → (Held m held ks → ⊥) → root_fits m (bytes ∷ held) ≡ true → n < pages_needed m (bytes ∷ held) → InsertCase m n bytes held
  good : (ks : List ℕ) → m.read bytes ≡ Some ks → (Held m held ks → ⊥) → root_fits m (bytes ∷ held) ≡ true → pages_needed m (bytes ∷ held) ≤ n → InsertCase m n bytes held

some_same : (m : Meaning) (bytes ks ls : List ℕ) → m.read bytes ≡ Some ks → m.read bytes ≡ Some ls → ls ≡ ks
some_same m bytes ks ls e p = sym (keys_are m bytes ls p) ∙ keys_are m bytes ks e

some_none : (m : Meaning) (bytes ks : List ℕ) → m.read bytes ≡ Some ks → m.read bytes ≡ None → ⊥
some_none m bytes ks e p = let z : ◌≡◌ {A = ℕ} 0 1 = cc in omega arith

module _ (below : Below) (m : Meaning) (law : Lawful m) (st : State) (held : List (List ℕ)) (h : Holds m st held) where
  held_tally : (ks : List ℕ) → Held m held ks → 0 < tally (keyed m ks) held
  held_tally ks k = in_tally (keyed m ks) k.0 held k.1 (same_from ks (keys_of m k.0) (sym (keys_are m k.0 ks k.2)))

  tally_held : (ks : List ℕ) → 0 < tally (keyed m ks) held → Held m held ks
  tally_held ks l =
      let r = tally_in (keyed m ks) held l in
      let e = h.records r.0 r.1 in
      (r.0, r.1, e.1 ∙ ap (λ (zs : List ℕ). Some zs) (sym (keys_are m r.0 e.0 e.1) ∙ sym (same_true ks (keys_of m r.0) r.2)))

  tell_held : (ks : List ℕ) → Held m held ks ⊎ ((Held m held ks → ⊥) × (tally (keyed m ks) held ≡ 0))
  tell_held ks = elim (cases_lt 0 (tally (keyed m ks) held)) [
    | inl l ↦ inl (tally_held ks l)
    | inr l ↦ inr ((λ k. absurd (omega (arith, held_tally ks k))), omega arith)
  ]

  tell_insert : (bytes : List ℕ) → InsertCase m (size_of st) bytes held
  tell_insert bytes = go (m.read bytes) refl
    where
      fit : (ks : List ℕ) → m.read bytes ≡ Some ks → (Held m held ks → ⊥) → (t : Bool) → root_fits m (bytes ∷ held) ≡ t → InsertCase m (size_of st) bytes held
      fit ks e n false f = no_root ks e n f
      fit ks e n true f = elim (cases_lt (size_of st) (pages_needed m (bytes ∷ held))) [ inl l ↦ no_room ks e n f l | inr l ↦ good ks e n f l ]

      go : (o : Option (List ℕ)) → m.read bytes ≡ o → InsertCase m (size_of st) bytes held
      go None e = none e
      go (Some ks) e = elim (tell_held ks) [ inl k ↦ twice ks e k | inr n ↦ fit ks e n.0 (root_fits m (bytes ∷ held)) refl ]

  -- The records held with one more.
  more_records : (bytes ks : List ℕ) → m.read bytes ≡ Some ks → (r : List ℕ) → In r (bytes ∷ held) → (ls : List ℕ) × (m.read r ≡ Some ls)
  more_records bytes ks e r (inl p) = (ks, ap (λ z. m.read z) p ∙ e)
  more_records bytes ks e r (inr i) = h.records r i

  more_distinct : (bytes ks : List ℕ) → m.read bytes ≡ Some ks → (Held m held ks → ⊥) → Distinct (points m (bytes ∷ held))
  more_distinct bytes ks e n = (
    (λ i.
        let r = in_map_back (keys_of m) (keys_of m bytes) held i in
        let k = h.records r.0 r.2 in
        n (r.0, r.2, k.1 ∙ ap (λ (zs : List ℕ). Some zs) (sym (keys_are m r.0 k.0 k.1) ∙ sym r.1 ∙ keys_are m bytes ks e))),
    h.no_two,
  )

  boxes_of : (hs : List (List ℕ)) → ((r : List ℕ) → In r hs → (ks : List ℕ) × (m.read r ≡ Some ks)) → Distinct (points m hs) → Boxes m hs (length (directory_boxes m hs)) (length (leaf_boxes m hs))
  boxes_of hs w d =
      let k = below.numbers m.widths m.halvings (names below m law) m.capacity law.some_room (points m hs) (all_points m law hs w) d in
      record { directories = k.1.0; leaves = k.0.0 }

  -- the shape with so many boxes
  abbrev shape_of : ℕ → ℕ → Result Shape Refusal
  shape_of d l = Ok (record { pages = 8 + d + l; directories = d; leaves = l })

  pub shape_is : (r : Result Shape Refusal) (after : State) → Shapes m st r after → r ≡ Ok (record { pages = pages_needed m held; directories = length (directory_boxes m held); leaves = length (leaf_boxes m held) })
  shape_is r after s =
      s.reported h.mem h.made ∙ ap (λ (d : ℕ). shape_of d h.mem.leaves) h.counted.0 ∙ ap (λ (l : ℕ). shape_of (length (directory_boxes m held)) l) h.counted.1

  pub shapes_right : (r : Result Shape Refusal) (after : State) → Shapes m st r after
      → (d : ℕ) × (l : ℕ) × Boxes m held d l × (r ≡ Ok (record { pages = 8 + d + l; directories = d; leaves = l }))
  shapes_right r after s = (length (directory_boxes m held), length (leaf_boxes m held), boxes_of held h.records h.no_two, shape_is r after s)

  pub refusals_right : (bytes ks : List ℕ) (r : Result ℕ Refusal) (after : State) → m.read bytes ≡ Some ks → (Held m held ks → ⊥) → Inserts m bytes st r after
      → (d : ℕ) × (l : ℕ) × Boxes m (bytes ∷ held) d l × (r ≡ verdict (root_fits m (bytes ∷ held)) (8 + d + l) (size_of st))
  refusals_right bytes ks r after e n i = (
    length (directory_boxes m (bytes ∷ held)),
    length (leaf_boxes m (bytes ∷ held)),
    boxes_of (bytes ∷ held) (more_records bytes ks e) (more_distinct bytes ks e n),
    go (root_fits m (bytes ∷ held)) refl (cases_lt (size_of st) (pages_needed m (bytes ∷ held))),
  )
    where
      needed : ℕ
      needed = pages_needed m (bytes ∷ held)

      go : (t : Bool) → root_fits m (bytes ∷ held) ≡ t → (size_of st < pages_needed m (bytes ∷ held)) ⊎ (pages_needed m (bytes ∷ held) ≤ size_of st)
          → r ≡ verdict (root_fits m (bytes ∷ held)) (pages_needed m (bytes ∷ held)) (size_of st)
      go false f w = i.root_full held ks h e n f ∙ sym (ap (λ t. verdict t (pages_needed m (bytes ∷ held)) (size_of st)) f)
      go true f (inl l) = i.store_full held ks h e n f l
          ∙ sym (ap (λ t. verdict t (pages_needed m (bytes ∷ held)) (size_of st)) f ∙ cond-false (leb (pages_needed m (bytes ∷ held)) (size_of st)) (Ok (pages_needed m (bytes ∷ held))) (Err StoreFull) (lt-leb (pages_needed m (bytes ∷ held)) (size_of st) l))
      go true f (inr l) = (i.added held ks h e n f l).0
          ∙ sym (ap (λ t. verdict t (pages_needed m (bytes ∷ held)) (size_of st)) f ∙ cond-true (leb (pages_needed m (bytes ∷ held)) (size_of st)) (Ok (pages_needed m (bytes ∷ held))) (Err StoreFull) (le-leb (pages_needed m (bytes ∷ held)) (size_of st) l))

  -- No refusal with a number below k applies.
  made_not : Unmade m st → ⊥
  made_not u = u h.mem h.made

  insert_from : (bytes : List ℕ) (k : ℕ) → (m.read bytes ≡ None → k ≤ 3) → ((ks : List ℕ) → m.read bytes ≡ Some ks → Held m held ks → k ≤ 6)
      → (root_fits m (bytes ∷ held) ≡ false → k ≤ 8) → (size_of st < pages_needed m (bytes ∷ held) → k ≤ 9) → (d : Refusal) → Applies m st held (insert bytes) d → k ≤ number d
  insert_from bytes k a b c e d (other_store u) = absurd (made_not u)
  insert_from bytes k a b c e d (no_record x) = a x
  insert_from bytes k a b c e d (held_already ks x y) = b ks x y
  insert_from bytes k a b c e d (root_full ks x y) = c y
  insert_from bytes k a b c e d (store_full ks x y) = e y

  delete_from : (ks : List ℕ) (k : ℕ) → ((Point m.widths ks → ⊥) → k ≤ 4) → ((Held m held ks → ⊥) → k ≤ 7) → (d : Refusal) → Applies m st held (delete ks) d → k ≤ number d
  delete_from ks k a b d (other_store u) = absurd (made_not u)
  delete_from ks k a b d (delete_at x) = a x
  delete_from ks k a b d (not_held x) = b x

  find_from : (ks old : List ℕ) (k : ℕ) → ((Point m.widths ks → ⊥) → k ≤ 4) → (d : Refusal) → Applies m st held (find ks old) d → k ≤ number d
  find_from ks old k a d (other_store u) = absurd (made_not u)
  find_from ks old k a d (find_at x) = a x

  count_from : (ls hs : List ℕ) (k : ℕ) → ((IsRange m.widths ls hs → ⊥) → k ≤ 4) → (d : Refusal) → Applies m st held (count ls hs) d → k ≤ number d
  count_from ls hs k a d (other_store u) = absurd (made_not u)
  count_from ls hs k a d (count_over x) = a x

  list_from : (ls hs old : List ℕ) (k : ℕ) → ((IsRange m.widths ls hs → ⊥) → k ≤ 4) → (length old < m.size * length (in_range m ls hs held) → k ≤ 10)
      → (d : Refusal) → Applies m st held (list ls hs old) d → k ≤ number d
  list_from ls hs old k a b d (other_store u) = absurd (made_not u)
  list_from ls hs old k a b d (list_over x) = a x
  list_from ls hs old k a b d (short_buffer x y) = b y

  shape_none : (d : Refusal) → Applies m st held shape d → ⊥
  shape_none d (other_store u) = made_not u

  none_at_all : (c : Call) → ((d : Refusal) → Applies m st held c d → 11 ≤ number d) → (d : Refusal) → Applies m st held c d → ⊥
  none_at_all c w d a = absurd (omega (arith, w d a, at_most d))

  with_answer : {A : Type 0} (c : Call) (r s : Result A Refusal) → r ≡ s → Least (Applies m st held c) (refusal s) → Least (Applies m st held c) (refusal r)
  with_answer {A} c r s e l = subst (λ (x : Result A Refusal). Least (Applies m st held c) (refusal x)) (sym e) l

  insert_least : (bytes : List ℕ) (r : Result ℕ Refusal) (after : State) → Inserts m bytes st r after → InsertCase m (size_of st) bytes held → Least (Applies m st held (insert bytes)) (refusal r)
  insert_least bytes r after i (none e) = with_answer (insert bytes) r (Err NotARecord) (i.no_record h.mem h.made e)
      (no_record e, insert_from bytes 3 (λ _. omega arith) (λ _ _ _. omega arith) (λ _. omega arith) (λ _. omega arith))
  insert_least bytes r after i (twice ks e k) = with_answer (insert bytes) r (Err AlreadyHeld) (i.held_already held ks h e k)
      (held_already ks e k, insert_from bytes 6 (λ x. absurd (some_none m bytes ks e x)) (λ _ _ _. omega arith) (λ _. omega arith) (λ _. omega arith))
  insert_least bytes r after i (no_root ks e n f) = with_answer (insert bytes) r (Err RootFull) (i.root_full held ks h e n f)
      (root_full ks e f, insert_from bytes 8 (λ x. absurd (some_none m bytes ks e x)) (λ ls x y. absurd (n (subst (Held m held) (some_same m bytes ks ls e x) y))) (λ _. omega arith) (λ _. omega arith))
  insert_least bytes r after i (no_room ks e n f l) = with_answer (insert bytes) r (Err StoreFull) (i.store_full held ks h e n f l) (
    store_full ks e l,
    insert_from bytes 9 (λ x. absurd (some_none m bytes ks e x)) (λ ls x y. absurd (n (subst (Held m held) (some_same m bytes ks ls e x) y)))
        (λ x. absurd (clash f x)) (λ _. omega arith),
  )
    where
      clash : root_fits m (bytes ∷ held) ≡ true → root_fits m (bytes ∷ held) ≡ false → ⊥
      clash p q = let z : ◌≡◌ {A = ℕ} 0 1 = cc in omega arith
  insert_least bytes r after i (good ks e n f l) = with_answer (insert bytes) r (Ok (pages_needed m (bytes ∷ held))) (i.added held ks h e n f l).0
      (none_at_all (insert bytes) (insert_from bytes 11 (λ x. absurd (some_none m bytes ks e x)) (λ ls x y. absurd (n (subst (Held m held) (some_same m bytes ks ls e x) y)))
      (λ x. absurd (clash f x)) (λ x. absurd (omega arith))))
    where
      clash : root_fits m (bytes ∷ held) ≡ true → root_fits m (bytes ∷ held) ≡ false → ⊥
      clash p q = let z : ◌≡◌ {A = ℕ} 0 1 = cc in omega arith

  -- the record that a delete takes out
  pub takes : (ks : List ℕ) → Held m held ks → (r : Result ℕ Refusal) (after : State) → Deletes m ks st r after
      → (r ≡ Ok (pages_needed m (after_one m (size_of st) (delete ks) held))) × Holds m after (after_one m (size_of st) (delete ks) held) × Careful m st after
  takes ks k r after i =
      let t = taken_out m ks held h.no_two (held_tally ks k) in
      let e = h.records t.0 t.1 in
      let read : m.read t.0 ≡ Some ks = e.1 ∙ ap (λ (zs : List ℕ). Some zs) (sym (keys_are m t.0 e.0 e.1) ∙ sym (same_true ks (keys_of m t.0) t.2)) in
      let d = i.taken held (after_one m (size_of st) (delete ks) held) t.0 h read t.3 in
      (d.0, d.1, d.2)

  pub deletions_right : (ks : List ℕ) (r : Result ℕ Refusal) (after : State) → Held m held ks → Deletes m ks st r after
      → (d : ℕ) × (l : ℕ) × Boxes m (without m ks held) d l × (r ≡ Ok (8 + d + l))
  deletions_right ks r after k i =
      let t = takes ks k r after i in
      (length (directory_boxes m (without m ks held)), length (leaf_boxes m (without m ks held)), boxes_of (without m ks held) t.1.records t.1.no_two, t.0)

  pub least : (c : Call) (after : State) (s : Step m c st after) → Least (Applies m st held c) (refused s)
  least c after (inserts {bytes} r i) = insert_least bytes r after i (tell_insert bytes)
  least c after (deletes {ks} r i) = elim (tell_point m.widths ks) [
    | inl p ↦ elim (tell_held ks) [
      | inl k ↦ with_answer (delete ks) r (Ok (pages_needed m (after_one m (size_of st) (delete ks) held))) (takes ks k r after i).0
          (none_at_all (delete ks) (delete_from ks 11 (λ n. absurd (n p)) (λ n. absurd (n k))))
      | inr n ↦ with_answer (delete ks) r (Err NotHeld) (i.not_held held h p n.0)
          (not_held n.0, delete_from ks 7 (λ x. absurd (x p)) (λ _. omega arith))
    ]
    | inr n ↦ with_answer (delete ks) r (Err BadKeys) (i.bad_keys h.mem h.made n) (delete_at n, delete_from ks 4 (λ _. omega arith) (λ _. omega arith))
  ]
  least c after (finds {ks} {old} r new f) = elim (tell_point m.widths ks) [
    | inl p ↦
        let k = answer below m law st held h ks p (at below m law st held h ks p) st after refl refl refl refl old new r f in
        with_answer (find ks old) r (Ok k.0) k.1 (none_at_all (find ks old) (find_from ks old 11 (λ n. absurd (n p))))
    | inr n ↦ with_answer (find ks old) r (Err BadKeys) (f.bad_keys h.mem h.made n).0 (find_at n, find_from ks old 4 (λ _. omega arith))
  ]
  least c after (counts {ls} {hs} r k) = elim (tell_range m.widths ls hs) [
    | inl p ↦ with_answer (count ls hs) r (Ok (length (in_range m ls hs held))) (k.counted held h p) (none_at_all (count ls hs) (count_from ls hs 11 (λ n. absurd (n p))))
    | inr n ↦ with_answer (count ls hs) r (Err BadKeys) (k.bad_range h.mem h.made n) (count_over n, count_from ls hs 4 (λ _. omega arith))
  ]
  least c after (lists {ls} {hs} {old} r new k) = elim (tell_range m.widths ls hs) [
    | inl p ↦ elim (cases_lt (length old) (m.size * length (in_range m ls hs held))) [
      | inl l ↦ with_answer (list ls hs old) r (Err (ShortBuffer (m.size * length (in_range m ls hs held)))) (k.short held h p l) (short_buffer p l, list_from ls hs old 10 (λ n. absurd (n p)) (λ _. omega arith))
      | inr l ↦ with_answer (list ls hs old) r (Ok (length (in_range m ls hs held))) (k.written held h p l).0 (none_at_all (list ls hs old) (list_from ls hs old 11 (λ n. absurd (n p)) (λ x. absurd (omega arith))))
    ]
    | inr n ↦ with_answer (list ls hs old) r (Err BadKeys) (k.bad_range h.mem h.made n) (list_over n, list_from ls hs old 4 (λ _. omega arith) (λ _. omega arith))
  ]
  least c after (shapes r s) = with_answer shape r (shape_of h.mem.directories h.mem.leaves) (s.reported h.mem h.made) shape_none

  -- The records held after a call.
  refused_keeps : (hs : List (List ℕ)) (after : State) → hs ≡ held → after ≡ st → Holds m after hs × (size_of after ≡ size_of st)
  refused_keeps hs after e p = (subst (λ z. Holds m after z) (sym e) (subst (λ s. Holds m s held) (sym p) h), ap size_of p)

  not_accepted : (bytes : List ℕ) → accepts m (size_of st) bytes held ≡ false → after_one m (size_of st) (insert bytes) held ≡ held
  not_accepted bytes e = cond-false (accepts m (size_of st) bytes held) (bytes ∷ held) held e

  held_count : (bytes ks : List ℕ) → m.read bytes ≡ Some ks → tally (keyed m (keys_of m bytes)) held ≡ tally (keyed m ks) held
  held_count bytes ks e = ap (λ ls. tally (keyed m ls) held) (keys_are m bytes ks e)

  insert_keeps : (bytes : List ℕ) (r : Result ℕ Refusal) (after : State) → Inserts m bytes st r after → InsertCase m (size_of st) bytes held
      → Holds m after (after_one m (size_of st) (insert bytes) held) × (size_of after ≡ size_of st)
  insert_keeps bytes r after i (none e) =
      let A = is_some (m.read bytes) in
      let B = eqb (tally (keyed m (keys_of m bytes)) held) 0 && (root_fits m (bytes ∷ held) && leb (pages_needed m (bytes ∷ held)) (size_of st)) in
      refused_keeps (after_one m (size_of st) (insert bytes) held) after (not_accepted bytes (and_left A B (ap is_some e)))
      (i.refused NotARecord (i.no_record h.mem h.made e))
  insert_keeps bytes r after i (twice ks e k) =
      let A = is_some (m.read bytes) in
      let C = root_fits m (bytes ∷ held) && leb (pages_needed m (bytes ∷ held)) (size_of st) in
      let B = eqb (tally (keyed m (keys_of m bytes)) held) 0 in
      let n : B ≡ false = ne_eqb (tally (keyed m (keys_of m bytes)) held) 0 (λ z. absurd (omega (arith, z, held_count bytes ks e, held_tally ks k))) in
      refused_keeps (after_one m (size_of st) (insert bytes) held) after (not_accepted bytes (and_right A (B && C) (and_left B C n)))
      (i.refused AlreadyHeld (i.held_already held ks h e k))
  insert_keeps bytes r after i (no_root ks e n f) =
      let A = is_some (m.read bytes) in
      let B = eqb (tally (keyed m (keys_of m bytes)) held) 0 in
      let C = root_fits m (bytes ∷ held) in
      let D = leb (pages_needed m (bytes ∷ held)) (size_of st) in
      refused_keeps (after_one m (size_of st) (insert bytes) held) after (not_accepted bytes (and_right A (B && (C && D)) (and_right B (C && D) (and_left C D f))))
      (i.refused RootFull (i.root_full held ks h e n f))
  insert_keeps bytes r after i (no_room ks e n f l) =
      let A = is_some (m.read bytes) in
      let B = eqb (tally (keyed m (keys_of m bytes)) held) 0 in
      let C = root_fits m (bytes ∷ held) in
      let D = leb (pages_needed m (bytes ∷ held)) (size_of st) in
      refused_keeps (after_one m (size_of st) (insert bytes) held) after
      (not_accepted bytes (and_right A (B && (C && D)) (and_right B (C && D) (and_right C D (lt-leb (pages_needed m (bytes ∷ held)) (size_of st) l)))))
      (i.refused StoreFull (i.store_full held ks h e n f l))
  insert_keeps bytes r after i (good ks e n f l) =
      let A = is_some (m.read bytes) in
      let B = eqb (tally (keyed m (keys_of m bytes)) held) 0 in
      let C = root_fits m (bytes ∷ held) in
      let D = leb (pages_needed m (bytes ∷ held)) (size_of st) in
      let new : tally (keyed m ks) held ≡ 0 = elim (tell_held ks) [ inl k ↦ absurd (n k) | inr z ↦ z.1 ] in
      let yes' : accepts m (size_of st) bytes held ≡ true = and_from A (B && (C && D)) (ap is_some e)
      (and_from B (C && D) (eq-eqb (tally (keyed m (keys_of m bytes)) held) 0 (held_count bytes ks e ∙ new)) (and_from C D f (le-leb (pages_needed m (bytes ∷ held)) (size_of st) l))) in
      let a = i.added held ks h e n f l in
      (subst (λ z. Holds m after z) (sym (cond-true (accepts m (size_of st) bytes held) (bytes ∷ held) held yes')) a.1, a.2.as_many)

  pub keeps : (c : Call) (after : State) → Step m c st after → Holds m after (after_one m (size_of st) c held) × (size_of after ≡ size_of st)
  keeps c after (inserts {bytes} r i) = insert_keeps bytes r after i (tell_insert bytes)
  keeps c after (deletes {ks} r i) = elim (tell_held ks) [
    | inl k ↦ let t = takes ks k r after i in (t.1, t.2.as_many)
    | inr n ↦ elim (tell_point m.widths ks) [
      | inl p ↦ refused_keeps (after_one m (size_of st) (delete ks) held) after (kept_all (keyed m ks) held n.1) (i.refused NotHeld (i.not_held held h p n.0))
      | inr q ↦ refused_keeps (after_one m (size_of st) (delete ks) held) after (kept_all (keyed m ks) held n.1) (i.refused BadKeys (i.bad_keys h.mem h.made q))
    ]
  ]
  keeps c after (finds r new f) = refused_keeps held after refl f.stays
  keeps c after (counts r k) = refused_keeps held after refl k.stays
  keeps c after (lists r new k) = refused_keeps held after refl k.stays
  keeps c after (shapes r s) = refused_keeps held after refl s.stays

  -- What a call leaves as it was.
  still : Careful m st st
  still = record
      { as_many = refl; same_directory_page = h.stands.one_directory_page; same_bucket_page = h.stands.one_bucket_page; unused = λ j l n. refl }

  same_careful : (after : State) → after ≡ st → Careful m st after
  same_careful after e = subst (λ s. Careful m st s) (sym e) still

  insert_careful : (bytes : List ℕ) (r : Result ℕ Refusal) (after : State) → Inserts m bytes st r after → InsertCase m (size_of st) bytes held → Careful m st after
  insert_careful bytes r after i (none e) = same_careful after (i.refused NotARecord (i.no_record h.mem h.made e))
  insert_careful bytes r after i (twice ks e k) = same_careful after (i.refused AlreadyHeld (i.held_already held ks h e k))
  insert_careful bytes r after i (no_root ks e n f) = same_careful after (i.refused RootFull (i.root_full held ks h e n f))
  insert_careful bytes r after i (no_room ks e n f l) = same_careful after (i.refused StoreFull (i.store_full held ks h e n f l))
  insert_careful bytes r after i (good ks e n f l) = (i.added held ks h e n f l).2

  pub careful_right : (c : Call) (after : State) → Step m c st after → Careful m st after
  careful_right c after (inserts {bytes} r i) = insert_careful bytes r after i (tell_insert bytes)
  careful_right c after (deletes {ks} r i) = elim (tell_held ks) [
    | inl k ↦ (takes ks k r after i).2
    | inr n ↦ elim (tell_point m.widths ks) [
      | inl p ↦ same_careful after (i.refused NotHeld (i.not_held held h p n.0))
      | inr q ↦ same_careful after (i.refused BadKeys (i.bad_keys h.mem h.made q))
    ]
  ]
  careful_right c after (finds r new f) = same_careful after f.stays
  careful_right c after (counts r k) = same_careful after k.stays
  careful_right c after (lists r new k) = same_careful after k.stays
  careful_right c after (shapes r s) = same_careful after s.stays

none_some : (e : Refusal) → ◌≡◌ {A = Option Refusal} None (Some e) → ⊥
none_some e p = let z : ◌≡◌ {A = ℕ} 0 1 = cc in omega arith

pub untouched_right : (m : Meaning) (st : State) (c : Call) (after : State) (s : Step m c st after) (e : Refusal) → refused s ≡ Some e → after ≡ st
untouched_right m st c after (inserts (Ok n) i) e p = absurd (none_some e p)
untouched_right m st c after (inserts (Err x) i) e p = i.refused x refl
untouched_right m st c after (deletes (Ok n) i) e p = absurd (none_some e p)
untouched_right m st c after (deletes (Err x) i) e p = i.refused x refl
untouched_right m st c after (finds r new f) e p = f.stays
untouched_right m st c after (counts r k) e p = k.stays
untouched_right m st c after (lists r new k) e p = k.stays
untouched_right m st c after (shapes r s) e p = s.stays
