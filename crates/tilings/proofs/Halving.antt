-- The lower ends of the boxes that an image shows in a box, by its halves.
use Rattle.std.proofs.Common.{◌≡◌, ℕ, zero, suc, ◌<◌, ◌≤◌, Bool, true, false, ◌⊎◌, List, [], ◌∷◌, length, get_or, sym, ap, ◌∙◌, subst, inl, inr, arith}
use Rattle.std.proofs.lemmas.List.{length-append}
use Rattle.std.proofs.lemmas.Bool.{cases_lt}
use Rattle.boxes.specs.Cuts.{Path, In, half}
use Rattle.boxes.specs.Points.{Names, Point, path, lows}
use Rattle.boxes.specs.Rising.{insert_all}
use Rattle.boxes.specs.Space.{Lies, box_at}
use Rattle.boxes.proofs.Directories.{around_long}
use Rattle.boxes.proofs.Distinct.{pigeon}
use Rattle.boxes.proofs.Gathered.{in_insert_all, insert_all_in}
use Rattle.boxes.proofs.Insertion.{rising_distinct}
use Rattle.boxes.proofs.Ladder.{around_at}
use Rattle.boxes.proofs.Leaves.{around_half}
use Rattle.boxes.proofs.Levels.{around_front_take}
use Rattle.boxes.proofs.Lows.{length_path, lows_point, path_lows, around_take, lows_least}
use Rattle.boxes.proofs.Refine.{around_trans, around_next}
use Rattle.boxes.proofs.Spans.{around_lies, lies_around}
use Rattle.images.specs.Directory.{Tile, Image, Rising, tile_at, inner}
use Rattle.images.proofs.Boxing.{deeper}
use Rattle.images.proofs.Pieces.{length_box_at}
use Rattle.images.proofs.Unique.{end_listed}
use Rattle.tilings.specs.Ends.{ShownIn, LowerEnd}

scale_most : (es : List (List ℕ)) (i : ℕ) → length (get_or es i []) ≤ inner es
scale_most [] i = omega arith
scale_most (e ∷ es) zero = omega arith
scale_most (e ∷ es) (suc i) = omega (arith, scale_most es i)

-- the numbers are exactly the lower ends in key i
abbrev pub Exact : List ℕ → List ℕ → Image → Path → ℕ → List ℕ → Type 0
Exact ws ord img c i us = (x : ℕ) → (In x us → LowerEnd ws ord img c i x) × (LowerEnd ws ord img c i x → In x us)

module _ (ws ord : List ℕ) (h : Names ws ord) (img : Image) (b : Path) (n : ℕ) (c : Path) (short : length c ≤ length ord) (s : ShownIn ws ord img b n c) where
  -- the lowest corner
  abbrev at : List ℕ
  at = lows ws ord c

  at_point : Point ws at
  at_point = lows_point ws ord c h

  at_lies : Lies ws ord c at
  at_lies = around_lies c ws ord at h at_point (path_lows c ws ord h short)

  outer_short : length b ≤ length ord
  outer_short = omega (arith, around_long b c s.within)

  lies_outer : (p : List ℕ) → Point ws p → Lies ws ord c p → Lies ws ord b p
  lies_outer p pp w = around_lies b ws ord p h pp (around_trans b c (path ws ord p) s.within (lies_around c ws ord p h short pp w))

  -- the box of a point of c is c where it is of the same level, and then all points of c are named alike
  box_same : (p : List ℕ) → Point ws p → Lies ws ord c p → (tile_at img p).level ≡ length c → box_at ws ord (tile_at img p).level p ≡ c
  box_same p pp w e = ap (λ l. box_at ws ord l p) e ∙ sym (around_take c (path ws ord p) (lies_around c ws ord p h short pp w))

  named_alike : (p q : List ℕ) → Point ws p → Lies ws ord c p → Point ws q → Lies ws ord c q → (tile_at img p).level ≡ length c → (tile_at img q).level ≡ (tile_at img p).level
  named_alike p q pp w pq v e = ap (λ (t : Tile). t.level) (s.lawful.alike p q pp (lies_outer p pp w) pq (subst (λ (d : Path). Lies ws ord d q) (sym (box_same p pp w e)) v))

  -- the image has a box no smaller at the corner
  pub one_end : (tile_at img at).level ≤ length c → (i : ℕ) → Exact ws ord img c i (get_or at i 0 ∷ [])
  one_end le i x =
      let e : (tile_at img at).level ≡ length c = omega (arith, s.whole at at_point at_lies) in (
        (λ m. (at, at_point, at_lies, alone m ∙ sym (ap (λ (d : Path). get_or (lows ws ord d) i 0) (box_same at at_point at_lies e)))),
        (λ r. inl (r.3 ∙ ap (λ (d : Path). get_or (lows ws ord d) i 0) (box_same r.0 r.1 r.2 (named_alike at r.0 at_point at_lies r.1 r.2 e ∙ e)))),
      )
    where
      alone : In x (get_or at i 0 ∷ []) → x ≡ get_or at i 0
      alone (inl q) = q
      alone (inr z) = absurd z

  -- there are no more of them than fit
  pub few_ends : (i : ℕ) → i < length ws → (us : List ℕ) → Rising us → ((x : ℕ) → In x us → LowerEnd ws ord img c i x) → length us ≤ 61
  few_ends i l us up f = omega (arith, pigeon us (get_or (lows ws ord b) i 0 ∷ get_or img.ends i []) (rising_distinct us up) each, scale_most img.ends i, s.lawful.few_inner)
    where
      each : (x : ℕ) → In x us → In x (get_or (lows ws ord b) i 0 ∷ get_or img.ends i [])
      each x m =
          let r = f x m in
          let p = r.0 in
          let w = lies_outer p r.1 r.2 in
          let d = box_at ws ord (tile_at img p).level p in
          let v = s.lawful.nested p r.1 w in
          let long = length_box_at ws ord p (tile_at img p).level v.1 in
          let inside = deeper b d (path ws ord p) (omega (arith, v.0)) (lies_around b ws ord p h outer_short r.1 w) (around_front_take (tile_at img p).level (path ws ord p)) in
          let least = lows_least b ws ord (lows ws ord d) h (lows_point ws ord d h) (around_trans b d (path ws ord (lows ws ord d)) inside (path_lows d ws ord h (omega (arith, v.1)))) i l in
          elim (cases_lt (get_or (lows ws ord b) i 0) (get_or (lows ws ord d) i 0)) [
            | inl k ↦ inr (subst (λ z. In z (get_or img.ends i [])) (sym r.3) (end_listed ws ord h b outer_short n 60 80 img s.lawful p r.1 w i l k))
            | inr k ↦ inl (omega (arith, r.3))
          ]

  -- the image has smaller boxes
  module _ (deep : length c < (tile_at img at).level) where
    deeper_at : (p : List ℕ) → Point ws p → Lies ws ord c p → length c < (tile_at img p).level
    deeper_at p pp w = elim (cases_lt (length c) (tile_at img p).level) [
      | inl l ↦ l
      | inr l ↦
          let e : (tile_at img p).level ≡ length c = omega (arith, s.whole p pp w) in
          absurd (omega (arith, named_alike p at pp w at_point at_lies e))
    ]

    pub below_last : length c < length ord
    below_last = omega (arith, (s.lawful.nested at at_point (lies_outer at at_point at_lies)).1)

    half_short : (x : Bool) → length (half c x) ≤ length ord
    half_short x = omega (arith, length-append c (x ∷ []), below_last)

    lies_whole : (x : Bool) (p : List ℕ) → Point ws p → Lies ws ord (half c x) p → Lies ws ord c p
    lies_whole x p pp w = around_lies c ws ord p h pp (around_half c (path ws ord p) x (lies_around (half c x) ws ord p h (half_short x) pp w))

    pub half_shown : (x : Bool) → ShownIn ws ord img b n (half c x)
    half_shown x = record {
      lawful = s.lawful;
      within = around_trans b c (half c x) s.within (around_at c (x ∷ []));
      whole = λ p pp w. omega (arith, length-append c (x ∷ []), deeper_at p pp (lies_whole x p pp w));
    }

    in_half : (p : List ℕ) → Point ws p → Lies ws ord c p → Lies ws ord (half c false) p ⊎ Lies ws ord (half c true) p
    in_half p pp w = elim (around_next c (path ws ord p) (lies_around c ws ord p h short pp w)) [
      | inl q ↦ absurd (omega (arith, ap length q, length_path ws ord p, below_last))
      | inr r ↦ go r.0 (around_lies (half c r.0) ws ord p h pp r.1)
    ]
      where
        go : (x : Bool) → Lies ws ord (half c x) p → Lies ws ord (half c false) p ⊎ Lies ws ord (half c true) p
        go false v = inl v
        go true v = inr v

    -- the lower ends of both halves are those of the box
    pub ends_joined : (i : ℕ) (us vs : List ℕ) → Exact ws ord img (half c false) i us → Exact ws ord img (half c true) i vs → Exact ws ord img c i (insert_all vs us)
    ends_joined i us vs f g x = (
      (λ m. elim (in_insert_all x vs us m) [
        | inl k ↦ let r = (g x).0 k in (r.0, r.1, lies_whole true r.0 r.1 r.2, r.3)
        | inr k ↦ let r = (f x).0 k in (r.0, r.1, lies_whole false r.0 r.1 r.2, r.3)
      ]),
      (λ r. insert_all_in x vs us (elim (in_half r.0 r.1 r.2) [
        | inl v ↦ inr ((f x).1 (r.0, r.1, v, r.3))
        | inr v ↦ inl ((g x).1 (r.0, r.1, v, r.3))
      ])),
    )
