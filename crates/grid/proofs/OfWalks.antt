-- The records in a box and in a range, by the pages that stand for a set.
use Rattle.std.proofs.Common.{◌≡◌, ℕ, zero, suc, ◌+◌, ◌<◌, ◌≤◌, Bool, true, false, ◌&&◌, List, [], ◌∷◌, length, take, Some, Decides, filter, sym, refl, ap, ◌∙◌, subst, ap₂, subst₂, inl, inr, arith}
use Rattle.std.proofs.lemmas.Bool.{and_parts, cases_lt}
use Rattle.boxes.specs.Cuts.{Path, In, half, around}
use Rattle.boxes.specs.GridBoxes.{lows_of, box_of, IsBox}
use Rattle.boxes.specs.KeyRanges.{lowest_of, highest_of}
use Rattle.boxes.specs.Leaves.{tally, Same}
use Rattle.boxes.specs.Points.{Names, Point, path}
use Rattle.boxes.specs.Ranges.{Within, Meets}
use Rattle.boxes.specs.Space.{Lies, box_at}
use Rattle.boxes.specs.Spaces.{widths_of, order_of}
use Rattle.boxes.specs.declared.grid_box.GridBox.{GridBox}
use Rattle.boxes.specs.declared.key_range.KeyRange.{KeyRange}
use Rattle.boxes.specs.declared.space.Space.{Space}
use Rattle.boxes.proofs.Distinct.{in_kept, kept_in}
use Rattle.boxes.proofs.Lows.{length_path, lows_point, around_take}
use Rattle.boxes.proofs.OfBoxes.{names, box_long}
use Rattle.boxes.proofs.Refine.{around_trans}
use Rattle.boxes.proofs.Spans.{around_lies, lies_around}
use Rattle.images.specs.Directory.{Image, tile_at}
use Rattle.kinds.specs.Meaning.{Meaning, Lawful}
use Rattle.promise.specs.Calls.{Holds, between}
use Rattle.promise.specs.Determined.{keys_of}
use Rattle.promise.specs.State.{State, page, box_around, BucketBytes, LeafAt, Exactly}
use Rattle.promise.proofs.Lists.{tally_in}
use Rattle.promise.proofs.Pages.{keys_are, length_box}
use Rattle.promise.proofs.Same.{same_sets}
use Rattle.grid.specs.Walks.{wanted, OfKind, Under, Reads}
use Rattle.grid.specs.declared.opened.Opened.{Opened}
use Rattle.grid.proofs.Betweens.{between_within, within_between}
use Rattle.grid.proofs.Halved.{tally_halves, tally_kept, distinct_kept, distinct_unmapped, distinct_apart}

bool_iff : (x y : Bool) → (x ≡ true → y ≡ true) → (y ≡ true → x ≡ true) → x ≡ y
bool_iff true y a b = sym (a refl)
bool_iff false true a b = b refl
bool_iff false false a b = refl

-- a way begins with its fronts, a longer front with a shorter, and a half with its box
around_front : (k : ℕ) (p : Path) → around (take k p) p ≡ true
around_front zero p = refl
around_front (suc k) [] = refl
around_front (suc k) (true ∷ p) = around_front k p
around_front (suc k) (false ∷ p) = around_front k p

around_fronts : (j k : ℕ) (p : Path) → j ≤ k → around (take j p) (take k p) ≡ true
around_fronts zero k p l = refl
around_fronts (suc j) zero p l = absurd (omega arith)
around_fronts (suc j) (suc k) [] l = refl
around_fronts (suc j) (suc k) (true ∷ p) l = around_fronts j k p (omega arith)
around_fronts (suc j) (suc k) (false ∷ p) l = around_fronts j k p (omega arith)

around_its_half : (b : Path) (x : Bool) → around b (half b x) ≡ true
around_its_half [] x = refl
around_its_half (true ∷ b) x = around_its_half b x
around_its_half (false ∷ b) x = around_its_half b x

around_shorter : (b d p : Path) → around b p ≡ true → around d p ≡ true → length b ≤ length d → around b d ≡ true
around_shorter b d p e f l =
    subst₂ (λ (u v : Path). around u v ≡ true) (sym (around_take b p e)) (sym (around_take d p f)) (around_fronts (length b) (length d) p l)

-- the lowest corner of a box is a point, and its way begins with the box
pub low_point : (g : GridBox) → Point (widths_of g.space.now) (lows_of g)
low_point g = subst (Point (widths_of g.space.now)) g.placed (lows_point (widths_of g.space.now) (order_of g.space.now) (box_of g) (names g.space.now))

low_around : (g : GridBox) → around (box_of g) (path (widths_of g.space.now) (order_of g.space.now) (lows_of g)) ≡ true
low_around g = around_front g.level (path (widths_of g.space.now) (order_of g.space.now) (lows_of g))

-- it lies in every box around the box
pub low_within : (d g : GridBox) → d.space.now ≡ g.space.now → around (box_of d) (box_of g) ≡ true
    → Point (widths_of d.space.now) (lows_of g) × Lies (widths_of d.space.now) (order_of d.space.now) (box_of d) (lows_of g)
low_within d g e a =
    subst (λ (s : Space). Point (widths_of s) (lows_of g) × Lies (widths_of s) (order_of s) (box_of d) (lows_of g)) (sym e) (
      low_point g,
      around_lies (box_of d) (widths_of g.space.now) (order_of g.space.now) (lows_of g) (names g.space.now) (low_point g)
          (around_trans (box_of d) (box_of g) (path (widths_of g.space.now) (order_of g.space.now) (lows_of g)) a (low_around g)),
    )

-- a box of no deeper level around the lowest corner is around the box
pub box_around_box : (s : Space) (l : ℕ) (d g : GridBox) → g.space.now ≡ s → IsBox s (box_at (widths_of s) (order_of s) l (lows_of g)) d → d.level ≤ g.level → around (box_of d) (box_of g) ≡ true
box_around_box s l d g e k le =
    let p = path (widths_of s) (order_of s) (lows_of g) in
    around_shorter (box_of d) (box_of g) p (subst (λ (b : Path). around b p ≡ true) (sym k.1) (around_front l p))
    (subst (λ (u : Space). around (box_of g) (path (widths_of u) (order_of u) (lows_of g)) ≡ true) e (low_around g))
    (omega (arith, box_long d, box_long g))

-- a half of a box under a directory box is under it
pub under_half : (n : ℕ) (d : Opened) (g h : GridBox) (x : Bool) → Under n d g → IsBox g.space.now (half (box_of g) x) h → Under n d h
under_half n d g h x u k = record {
  space = u.space ∙ sym k.0;
  size = u.size;
  lawful = u.lawful;
  inside = subst (λ (b : Path). around (box_of d.inner) b ≡ true) (sym k.1) (around_trans (box_of d.inner) (box_of g) (half (box_of g) x) u.inside (around_its_half (box_of g) x));
}

pub of_kind : (m : Meaning) (s t : Space) → t ≡ s → OfKind m s → OfKind m t
of_kind m s t e k = subst (OfKind m) (sym e) k

-- of the records that are wanted, as many of the one list as of the other pass any test
abbrev pub AsMany : Meaning → List ℕ → List ℕ → Path → List (List ℕ) → List (List ℕ) → Type 0
AsMany m ls hs b rs held = (f : List ℕ → Bool) → ((r : List ℕ) → f r ≡ true → wanted m ls hs b r ≡ true) → tally f rs ≡ tally f held

module _ (m : Meaning) where
  names_in : (s : Space) → OfKind m s → Names m.widths m.halvings
  names_in s k = subst₂ Names k.0 k.1 (names s)

  -- both tests of a record are made by the code
  module _ (law : Lawful m) (range : KeyRange) (g : GridBox) (kr : OfKind m range.space.now) (kg : OfKind m g.space.now) where
    module _ (r ks : List ℕ) (e : m.read r ≡ Some ks) where
      as_read : (z : Bool) → z ≡ (around (box_of g) (path m.widths m.halvings ks) && between (lowest_of range) (highest_of range) ks) → z ≡ wanted m (lowest_of range) (highest_of range) (box_of g) r
      as_read z q = subst (λ (us : List ℕ). z ≡ (around (box_of g) (path m.widths m.halvings us) && between (lowest_of range) (highest_of range) us)) (sym (keys_are m r ks e)) q

      in_box : (x : Bool) → Decides x (Point (widths_of g.space.now) ks × Lies (widths_of g.space.now) (order_of g.space.now) (box_of g) ks)
          → x ≡ around (box_of g) (path m.widths m.halvings ks)
      in_box x d =
          let p = law.keyed r ks e in
          let q = subst₂ (λ (ws ord : List ℕ). Decides x (Point ws ks × Lies ws ord (box_of g) ks)) kg.0 kg.1 d in
          let short : length (box_of g) ≤ length m.halvings = omega (arith, box_long g, g.deep, g.space.now.long, ap length kg.1) in
          bool_iff x (around (box_of g) (path m.widths m.halvings ks))
          (λ t. lies_around (box_of g) m.widths m.halvings ks (names_in g.space.now kg) short p (q.0 t).1)
          (λ t. q.1 (p, around_lies (box_of g) m.widths m.halvings ks (names_in g.space.now kg) p t))

      in_range : (y : Bool) → Decides y ((length ks ≡ length (lowest_of range)) × Within (lowest_of range) (highest_of range) ks) → y ≡ between (lowest_of range) (highest_of range) ks
      in_range y d =
          let p = law.keyed r ks e in
          let long : length ks ≡ length (lowest_of range) = p.long ∙ sym (ap length kr.0) ∙ sym range.lawful.0 in
          bool_iff y (between (lowest_of range) (highest_of range) ks)
          (λ t. within_between (lowest_of range) (highest_of range) ks (range.lawful.1 ∙ sym range.lawful.0) long (d.0 t).1)
          (λ t. d.1 (long, between_within (lowest_of range) (highest_of range) ks t))

      pub in_both : (x y : Bool) → x ≡ true → Decides x (Point (widths_of g.space.now) ks × Lies (widths_of g.space.now) (order_of g.space.now) (box_of g) ks)
          → Decides y ((length ks ≡ length (lowest_of range)) × Within (lowest_of range) (highest_of range) ks) → y ≡ wanted m (lowest_of range) (highest_of range) (box_of g) r
      in_both x y t d w = as_read y (ap₂ ◌&&◌ (sym t ∙ in_box x d) (in_range y w))

      pub in_none : (x : Bool) → x ≡ false → Decides x (Point (widths_of g.space.now) ks × Lies (widths_of g.space.now) (order_of g.space.now) (box_of g) ks)
          → false ≡ wanted m (lowest_of range) (highest_of range) (box_of g) r
      in_none x t d = as_read false (ap (λ (z : Bool). z && between (lowest_of range) (highest_of range) ks) (sym t ∙ in_box x d))

    module _ (st : State) (held : List (List ℕ)) (h : Holds m st held) where
      -- a box that the range does not meet has none of its records
      pub none_wanted : (Meets (widths_of g.space.now) (order_of g.space.now) (box_of g) (lowest_of range) (highest_of range) → ⊥)
          → tally (wanted m (lowest_of range) (highest_of range) (box_of g)) held ≡ 0
      none_wanted apart = elim (cases_lt 0 (tally (wanted m (lowest_of range) (highest_of range) (box_of g)) held)) [
        | inl l ↦
            let f = tally_in (wanted m (lowest_of range) (highest_of range) (box_of g)) held l in
            let r = f.0 in
            let ks = h.records r f.1 in
            let at = keys_are m r ks.0 ks.1 in
            let p : Point m.widths (keys_of m r) = subst (Point m.widths) (sym at) (law.keyed r ks.0 ks.1) in
            let q = and_parts (around (box_of g) (path m.widths m.halvings (keys_of m r))) (between (lowest_of range) (highest_of range) (keys_of m r)) f.2 in
            let here : Meets m.widths m.halvings (box_of g) (lowest_of range) (highest_of range) = (
              keys_of m r,
              p,
              around_lies (box_of g) m.widths m.halvings (keys_of m r) (names_in g.space.now kg) p q.0,
              p.long ∙ sym (ap length kr.0) ∙ sym range.lawful.0,
              between_within (lowest_of range) (highest_of range) (keys_of m r) q.1,
            ) in
            absurd (apart (subst₂ (λ (ws ord : List ℕ). Meets ws ord (box_of g) (lowest_of range) (highest_of range)) (sym kg.0) (sym kg.1) here))
        | inr l ↦ omega arith
      ]

  -- the records of a box are those of its halves
  pub wanted_halves : (ls hs : List ℕ) (g lower upper : GridBox) (held : List (List ℕ)) → OfKind m g.space.now → g.level < g.space.now.depth
      → IsBox g.space.now (half (box_of g) false) lower → IsBox g.space.now (half (box_of g) true) upper
      → tally (wanted m ls hs (box_of lower)) held + tally (wanted m ls hs (box_of upper)) held ≡ tally (wanted m ls hs (box_of g)) held
  wanted_halves ls hs g lower upper held k l a b =
      let deeper : length (box_of g) < length m.halvings = omega (arith, box_long g, g.space.now.long, ap length k.1) in
      let way = λ (r : List ℕ). path m.widths m.halvings (keys_of m r) in
      let parts = tally_halves way (λ (r : List ℕ). between ls hs (keys_of m r)) (box_of g) (λ r. omega (arith, deeper, length_path m.widths m.halvings (keys_of m r))) held in
      ap₂ (λ (u v : Path). tally (wanted m ls hs u) held + tally (wanted m ls hs v) held) a.1 b.1 ∙ sym parts

  -- the records of a leaf box's bucket are all that the set has there
  module _ (law : Lawful m) (names_m : Names m.widths m.halvings) (st : State) (held : List (List ℕ)) (h : Holds m st held) where
    point_of : (r : List ℕ) → In r held → Point m.widths (keys_of m r)
    point_of r i = let ks = h.records r i in subst (Point m.widths) (sym (keys_are m r ks.0 ks.1)) (law.keyed r ks.0 ks.1)

    bucket_same : (b : Path) (rs : List (List ℕ)) (bytes : List ℕ) → length b ≤ length m.halvings → BucketBytes m b rs bytes → Exactly m held b rs
        → Same rs (filter (λ r. around b (path m.widths m.halvings (keys_of m r))) held)
    bucket_same b rs bytes short k exact =
        let f = λ (r : List ℕ). around b (path m.widths m.halvings (keys_of m r)) in
        same_sets rs (filter f held) (distinct_apart m.read [] rs k.apart) (distinct_kept f held (distinct_unmapped (keys_of m) held h.no_two))
        (λ r i. let j = (exact r).0 i in kept_in f r held j.0 (lies_around b m.widths m.halvings (keys_of m r) names_m short (point_of r j.0) j.1))
        (λ r i. let j = in_kept f r held i in (exact r).1 j.0 (around_lies b m.widths m.halvings (keys_of m r) names_m (point_of r j.0) j.1))

    pub bucket_count : (ls hs : List ℕ) (d : Path) (img : Image) (ks : List ℕ) (b : Path) → Reads m st d img → Point m.widths ks → Lies m.widths m.halvings d ks
        → around (box_around m (tile_at img ks) ks) b ≡ true
        → (rs : List (List ℕ)) × BucketBytes m (box_around m (tile_at img ks) ks) rs (page st (tile_at img ks).page) × AsMany m ls hs b rs held
    bucket_count ls hs d img ks b reads p within a =
        let leaf = box_around m (tile_at img ks) ks in
        let lb : LeafAt m st leaf (tile_at img ks).page = record {
          above = d;
          above_page = reads.0;
          directory = reads.1;
          image = img;
          read = reads.2;
          point = ks;
          valid = p;
          within = within;
          box = refl;
          names = refl;
        } in
        let c = h.stands.contents leaf (tile_at img ks).page lb in
        let deep = (reads.2.lawful.nested ks p within).1 in
        let short : length leaf ≤ length m.halvings = omega (arith, length_box m.widths m.halvings ks (tile_at img ks).level deep, deep) in
        let same = bucket_same leaf c.0 (page st (tile_at img ks).page) short c.1 c.2 in (
          c.0,
          c.1,
          λ f stronger.
              same f ∙ tally_kept f (λ r. around leaf (path m.widths m.halvings (keys_of m r)))
              (λ r e. around_trans leaf b (path m.widths m.halvings (keys_of m r)) a (and_parts (around b (path m.widths m.halvings (keys_of m r))) (between ls hs (keys_of m r)) (stronger r e)).0) held,
        )
