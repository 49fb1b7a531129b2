-- Lists of the same records stand for the same pages, and the pages tell which records those are.
use Rattle.std.proofs.Common.{◌≡◌, ℕ, zero, suc, ◌<◌, ◌≤◌, Bool, true, false, cond, ◌⊎◌, List, [], ◌∷◌, map, length, sym, refl, ap, ◌∙◌, subst, inl, inr, arith}
use Rattle.boxes.specs.Cuts.{In}
use Rattle.boxes.specs.Space.{Lies, box_at}
use Rattle.boxes.specs.Leaves.{tally, Distinct, Same}
use Rattle.boxes.specs.Directories.{Directory, directories}
use Rattle.boxes.proofs.Changes.{same_map}
use Rattle.boxes.proofs.Cuts.{in_map}
use Rattle.kinds.specs.Meaning.{Meaning, Lawful}
use Rattle.images.specs.Directory.{tile_at}
use Rattle.buckets.specs.BucketLaws.{OneBucket}
use Rattle.promise.specs.Determined.{keys_of, points, leaf_boxes}
use Rattle.promise.specs.State.{State, page}
use Rattle.promise.specs.Calls.{Holds}
use Rattle.promise.specs.Runs.{same_numbers}
use Rattle.promise.specs.Sets.{OneSet}
use Rattle.promise.proofs.Lists.{same_self, same_true, in_tally, tally_in}
use Rattle.promise.proofs.Pages.{Below, at, keys_are}

-- members by tallies
pub same_in : (us vs : List (List ℕ)) → Same us vs → (x : List ℕ) → In x us → In x vs
same_in us vs s x i =
    let l : 0 < tally (same_numbers x) vs = subst (λ n. 0 < n) (s (same_numbers x)) (in_tally (same_numbers x) x us i (same_self x)) in
    let r = tally_in (same_numbers x) vs l in
    subst (λ y. In y vs) (sym (same_true x r.0 r.2)) r.1

none_in : (x : List ℕ) (us : List (List ℕ)) → (In x us → ⊥) → tally (same_numbers x) us ≡ 0
none_in x us n = go (tally (same_numbers x) us) refl
  where
    go : (k : ℕ) → tally (same_numbers x) us ≡ k → tally (same_numbers x) us ≡ 0
    go zero e = e
    go (suc k) e = let r = tally_in (same_numbers x) us (omega arith) in absurd (n (subst (λ y. In y us) (sym (same_true x r.0 r.2)) r.1))

distinct_once : (us : List (List ℕ)) → Distinct us → (x : List ℕ) → tally (same_numbers x) us ≤ 1
distinct_once [] d x = omega arith
distinct_once (u ∷ us) d x = go (same_numbers x u) refl (distinct_once us d.1 x)
  where
    go : (t : Bool) → same_numbers x u ≡ t → tally (same_numbers x) us ≤ 1 → tally (same_numbers x) (u ∷ us) ≤ 1
    go true e ih =
        let k = none_in x us (λ i. d.0 (subst (λ y. In y us) (same_true x u e) i)) in
        subst (λ t. cond t (suc (tally (same_numbers x) us)) (tally (same_numbers x) us) ≤ 1) (sym e) (omega arith)
    go false e ih = subst (λ t. cond t (suc (tally (same_numbers x) us)) (tally (same_numbers x) us) ≤ 1) (sym e) ih

once_distinct : (us : List (List ℕ)) → ((x : List ℕ) → tally (same_numbers x) us ≤ 1) → Distinct us
once_distinct [] w = tt
once_distinct (u ∷ us) w = (
  (λ i. absurd (omega (arith, in_tally (same_numbers u) u us i (same_self u), subst (λ t. cond t (suc (tally (same_numbers u) us)) (tally (same_numbers u) us) ≤ 1) (same_self u) (w u)))),
  once_distinct us (λ x. let k = w x in grind arith),
)

pub same_distinct : (us vs : List (List ℕ)) → Same us vs → Distinct us → Distinct vs
same_distinct us vs s d = once_distinct vs (λ x. subst (λ n. n ≤ 1) (s (same_numbers x)) (distinct_once us d x))

-- two lists with the same members, each one time
module _ {A : Type 0} (x : A) where
  out : (vs : List A) → In x vs → List A
  out [] i = absurd i
  out (y ∷ ys) (inl e) = ys
  out (y ∷ ys) (inr i) = y ∷ out ys i

  out_in : (vs : List A) (i : In x vs) (z : A) → In z (out vs i) → In z vs
  unfolding out
  out_in [] i z k = absurd i
  out_in (y ∷ ys) (inl e) z k = inr k
  out_in (y ∷ ys) (inr i) z (inl k) = inl k
  out_in (y ∷ ys) (inr i) z (inr k) = inr (out_in ys i z k)

  in_out : (vs : List A) (i : In x vs) (z : A) → In z vs → (z ≡ x) ⊎ In z (out vs i)
  unfolding out
  in_out [] i z k = absurd i
  in_out (y ∷ ys) (inl e) z (inl k) = inl (k ∙ sym e)
  in_out (y ∷ ys) (inl e) z (inr k) = inr k
  in_out (y ∷ ys) (inr i) z (inl k) = inr (inl k)
  in_out (y ∷ ys) (inr i) z (inr k) = elim (in_out ys i z k) [ inl e ↦ inl e | inr j ↦ inr (inr j) ]

  out_distinct : (vs : List A) (i : In x vs) → Distinct vs → Distinct (out vs i) × (In x (out vs i) → ⊥)
  unfolding out
  out_distinct [] i d = absurd i
  out_distinct (y ∷ ys) (inl e) d = (d.1, λ k. d.0 (subst (λ (z : A). In z ys) e k))
  out_distinct (y ∷ ys) (inr i) d =
      let ih = out_distinct ys i d.1 in
      (((λ k. d.0 (out_in ys i y k)), ih.0), λ k. elim k [ inl e ↦ d.0 (subst (λ (z : A). In z ys) e i) | inr j ↦ ih.1 j ])

  out_same : (vs : List A) (i : In x vs) → Same (x ∷ out vs i) vs
  unfolding out
  out_same [] i = absurd i
  out_same (y ∷ ys) (inl e) = λ f. ap (λ (z : A). tally f (z ∷ ys)) e
  out_same (y ∷ ys) (inr i) = λ f. let k = out_same ys i f in swap (f x) (f y) (tally f (out ys i)) ∙ ap (λ n. cond (f y) (suc n) n) k
    where
      swap : (s t : Bool) (n : ℕ) → cond s (suc (cond t (suc n) n)) (cond t (suc n) n) ≡ cond t (suc (cond s (suc n) n)) (cond s (suc n) n)
      swap true true n = refl
      swap true false n = refl
      swap false true n = refl
      swap false false n = refl

pub same_sets : {A : Type 0} (us vs : List A) → Distinct us → Distinct vs → ((x : A) → In x us → In x vs) → ((x : A) → In x vs → In x us) → Same us vs
same_sets [] [] du dv w z = λ f. refl
same_sets [] (v ∷ vs) du dv w z = absurd (z v (inl refl))
same_sets {A} (u ∷ us) vs du dv w z =
    let i = w u (inl refl) in
    let d = out_distinct u vs i dv in
    let s = same_sets us (out u vs i) du.1 d.0
    (λ x k. elim (in_out u vs i x (w x (inr k))) [ inl e ↦ absurd (du.0 (subst (λ (y : A). In y us) e k)) | inr j ↦ j ])
    (λ x k. elim (z x (out_in u vs i x k)) [ inl e ↦ absurd (d.1 (subst (λ (y : A). In y (out u vs i)) e k)) | inr j ↦ j ]) in
    λ f. ap (λ n. cond (f u) (suc n) n) (s f) ∙ out_same u vs i f

distinct_unmapped : {A B : Type 0} (g : A → B) (us : List A) → Distinct (map g us) → Distinct us
distinct_unmapped g [] d = tt
distinct_unmapped g (u ∷ us) d = ((λ i. d.0 (in_map g u us i)), distinct_unmapped g us d.1)

module _ (below : Below) (buckets : OneBucket) (m : Meaning) (law : Lawful m) (st : State) (held other : List (List ℕ)) (h : Holds m st held) where
  pub carried : Same held other → Holds m st other
  carried s =
      let ws = m.widths in
      let ord = m.halvings in
      let back : Same other held = λ f. sym (s f) in
      let ps = same_map (keys_of m) held other s in
      let qs = same_map (keys_of m) other held back in
      let o = below.orders ws ord m.capacity (points m held) (points m other) ps in
      let o' = below.orders ws ord m.capacity (points m other) (points m held) qs in
      let leaves : leaf_boxes m held ≡ leaf_boxes m other = o.0 in
      let stands = h.stands in
      record {
        mem = h.mem;
        made = h.made;
        whole_pages = h.whole_pages;
        records = λ r i. h.records r (same_in other held back r i);
        no_two = same_distinct (points m held) (points m other) ps h.no_two;
        copied = h.copied;
        stands = record {
          directories = λ b k. stands.directories b (subst (λ ls. Directory ws ord ls b) (sym leaves) k);
          no_other_directories = λ b pg k. subst (λ ls. Directory ws ord ls b) leaves (stands.no_other_directories b pg k);
          leaves = λ b k. stands.leaves b (o'.1 b k);
          no_other_leaves = λ b pg k. o.1 b (stands.no_other_leaves b pg k);
          contents = λ b pg k.
              let c = stands.contents b pg k in
              (c.0, c.1, λ r. ((λ i. let j = (c.2 r).0 i in (same_in held other s r j.0, j.1)), (λ i l. (c.2 r).1 (same_in other held back r i) l)));
          one_directory_page = stands.one_directory_page;
          own_directory_page = stands.own_directory_page;
          one_bucket_page = stands.one_bucket_page;
          own_bucket_page = stands.own_bucket_page;
          never_both = stands.never_both;
        };
        marked = h.marked;
        all_marked = h.all_marked;
        root_marked = h.root_marked;
        counted = (h.counted.0 ∙ ap (λ ls. length (directories ws ord ls)) leaves, h.counted.1 ∙ ap length leaves);
      }

  -- what one list has the other has
  pub told : Holds m st other → (r : List ℕ) → In r held → In r other
  told h' r i =
      let e = h.records r i in
      let ks = e.0 in
      let a = at below m law st held h ks (law.keyed r ks e.1) in
      let box = box_at m.widths m.halvings (tile_at a.image ks).level ks in
      let pg = (tile_at a.image ks).page in
      let c = h'.stands.contents box pg a.leaf in
      let one = buckets m (length box) (length box) a.records c.0 (page st pg) law a.bucket.holds c.1.holds in
      let j = (a.exact r).1 i (subst (Lies m.widths m.halvings box) (sym (keys_are m r ks e.1)) a.in_leaf) in
      ((c.2 r).0 (subst (λ rs. In r rs) one.0 j)).0

pub one_set : Below → OneBucket → OneSet
one_set below buckets m law st held other h = (
  carried below buckets m law st held other h,
  λ h'. same_sets held other (distinct_unmapped (keys_of m) held h.no_two) (distinct_unmapped (keys_of m) other h'.no_two)
      (told below buckets m law st held other h h') (told below buckets m law st other held h' h),
)
