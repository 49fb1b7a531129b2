-- The survey of a box that is halved, in the terms of its halves.
use Rattle.std.proofs.Common.{◌≡◌, ℕ, ◌+◌, ◌-◌, ◌<◌, ◌≤◌, min, Bool, true, false, List, [], ◌∷◌, ◌++◌, map, length, get_or, take, drop, is_some, Some, None, Option, sym, refl, ap, ◌∙◌, subst, ap₂, inl, inr, append-nil, arith, pow_mono}
use borrow.Rule.Slice.PartMut.{put_mid}
use Rattle.std.specs.List.Sorted.{IsPermutation}
use Rattle.std.proofs.lemmas.List.{length-append, length-map, length-drop, length-take, take-append-drop, take_all, drop_all, drop_at, take_at}
use Rattle.std.proofs.lemmas.List.Sorted.{IsPermutation-trans}
use Rattle.boxes.specs.declared.grid_box.GridBox.{GridBox}
use Rattle.boxes.specs.declared.keys.Keys.{Keys}
use Rattle.boxes.specs.declared.scales.Scales.{Scales}
use Rattle.boxes.specs.declared.space.Space.{Space}
use Rattle.boxes.specs.declared.survey.Survey.{Survey}
use Rattle.boxes.specs.Cuts.{Path, In, half}
use Rattle.boxes.specs.GridBoxes.{box_of, IsBox, ManyHalved}
use Rattle.boxes.specs.KeyLists.{ways_on}
use Rattle.boxes.specs.Leaves.{few}
use Rattle.boxes.specs.Fitting.{fits_from}
use Rattle.boxes.specs.Parts.{Parted}
use Rattle.boxes.specs.Scales.{scale, HalvesJoined}
use Rattle.boxes.specs.Spaces.{widths_of, order_of}
use Rattle.boxes.specs.Surveys.{leaves_in, ends_in, keeps_in, directories_in, Found, Surveyed, Noted}
use Rattle.boxes.proofs.HalfLeaves.{both, leaf_few, leaf_point, leaves_parted}
use Rattle.boxes.proofs.Halvings.{cuts_bound, half_level}
use Rattle.boxes.proofs.OfBoxes.{low_key}
use Rattle.boxes.proofs.Shuffles.{shuffled_append}
use Rattle.boxes.proofs.Walks.{keeps_one, ends_self, found_joined, directory_alone, number_open, noted_open}

-- what holds of a box that is a half, of the half
pub as_half : (g h : GridBox) (x : Bool) → IsBox g.space.now (half (box_of g) x) h → (P : Space → ℕ → Path → Type 0) → P h.space.now h.level (box_of h) → P g.space.now (g.level + 1) (half (box_of g) x)
as_half g h x b P p =
    subst (λ q. P g.space.now (g.level + 1) q) b.1
    (subst (λ n. P g.space.now n (box_of h)) (half_level g h x b)
    (subst (λ (u : Space). P u h.level (box_of h)) b.0 p))

pub found_keeps : (s : Space) (b : Path) (ls : List Path) (o : Option Scales) → Found s b ls o → keeps_in s b ls ≡ is_some o
found_keeps s b ls None f = f
found_keeps s b ls (Some e) f = f.0

-- a leaf box
module _ (g : GridBox) (c : ℕ) (ps : List Keys) (m : ManyHalved g (length ps) c None) where
  alone : leaves_in g.space.now g.level c ps ≡ [] ∷ []
  alone = elim m [ inl h ↦ leaf_few g.space.now g.level c ps h | inr e ↦ leaf_point g.space.now g.level c ps e ]

  abbrev at : Space
  at = g.space.now

  pub leaf_keeps : keeps_in at (box_of g) (leaves_in at g.level c ps) ≡ true
  leaf_keeps = ap (keeps_in at (box_of g)) alone ∙ keeps_one at (box_of g)

  pub leaf_surveyed : (e : Scales) → ((i : ℕ) → i < 4 → scale e i ≡ get_or g.low i 0 ∷ [])
      → Surveyed at g.level (box_of g) c ps record { leaf_boxes = 1; directory_boxes = 1; scales = Some e }
  leaf_surveyed e w = record {
    leaf_number = sym (ap length alone);
    directory_number = sym (ap length (directory_alone at g.level (box_of g) (leaves_in at g.level c ps) leaf_keeps));
    lower_ends = (leaf_keeps, λ i h x. (subst (In x) (same i h), subst (In x) (sym (same i h))));
  }
    where
      same : (i : ℕ) → i < at.keys → scale e i ≡ ends_in at (box_of g) (leaves_in at g.level c ps) i
      same i h =
          w i (omega (arith, at.few)) ∙ ap (λ n'. n' ∷ []) (sym (low_key g i h)) ∙ sym (ends_self at (box_of g) i) ∙ ap (λ bs. ends_in at (box_of g) bs i) (sym alone)

-- a box that keeps the limits, with its own lower end in front
pub alone_noted : (g : GridBox) (ls : List Path) (key : ℕ) (room : List ℕ) → key < g.space.now.keys → keeps_in g.space.now (box_of g) ls ≡ true → (1 ≤ length room → take 1 room ≡ get_or g.low key 0 ∷ [])
    → Noted g.space.now g.level (box_of g) ls key room
alone_noted g ls key room h k own =
    let one = directory_alone g.space.now g.level (box_of g) ls k in
    subst (λ bs. length bs ≤ length room → take (length bs) room ≡ ends_in g.space.now (box_of g) bs key) (sym one) (λ l.
    own l ∙ ap (λ n. n ∷ []) (sym (low_key g key h)) ∙ sym (ends_self g.space.now (box_of g) key))

-- the points, part by part: the upper part as it is lent once the lower has been walked
abbrev pub upper_lent : List Keys → List Keys → ℕ → List Keys
upper_lent qs us r = take (length (us ++ drop r qs) - r) (drop r (us ++ drop r qs))

module _ (qs us : List Keys) (r : ℕ) (h : r ≤ length qs) (eu : length us ≡ length (take r qs)) where
  abbrev rest : List Keys
  rest = drop r qs

  us_long : length us ≡ r
  us_long = omega (arith, eu, length-take r qs)

  behind : drop r (us ++ rest) ≡ rest
  behind = drop_at us rest r us_long

  pub upper_part : upper_lent qs us r ≡ rest
  upper_part = ap (take (length (us ++ rest) - r)) behind ∙ take_all (length (us ++ rest) - r) rest (omega (arith, length-append us rest, us_long))

  -- both put back
  pub parts_back : (vs : List Keys) → put_mid r (length (us ++ rest) - r) (us ++ rest) vs ≡ us ++ vs
  parts_back vs =
      ap₂ (λ as' bs. as' ++ (vs ++ bs)) (take_at us rest r us_long) (ap (drop (length (us ++ rest) - r)) behind ∙ drop_all (length (us ++ rest) - r) rest (omega (arith, length-append us rest, us_long)))
      ∙ ap (λ bs. us ++ bs) (append-nil vs)

-- a room of which the part behind n was lent
pub room_back : (r1 r2 : List ℕ) (n : ℕ) → put_mid n (length r1 - n) r1 r2 ≡ take n r1 ++ r2
room_back r1 r2 n =
    ap (λ bs. take n r1 ++ (r2 ++ bs)) (drop_all (length r1 - n) (drop n r1) (omega (arith, length-drop n r1)))
    ∙ ap (λ bs. take n r1 ++ bs) (append-nil r2)

-- a box g that is halved into lo and up, with its points and, in another order, those of each half
pub record Halving (g lo up : GridBox) (c : ℕ) (ps qs us vs : List Keys) (r : ℕ) : Type 0 where
  pub deeper : g.level < g.space.now.depth
  pub more : c < length ps
  pub sides : Parted g.space.now g.level ps qs r
  pub lower_half : IsBox g.space.now (half (box_of g) false) lo
  pub upper_half : IsBox g.space.now (half (box_of g) true) up
  pub lower_points : us ≡ take r qs
  pub upper_points : vs ≡ drop r qs

-- the halving that the code makes, the lower part walked
pub halving : (g lo up : GridBox) (c : ℕ) (ps qs us : List Keys) (r : ℕ) → ManyHalved g (length ps) c (Some (lo, up)) → Parted g.space.now g.level ps qs r → length us ≡ length (take r qs)
    → Halving g lo up c ps qs (take r qs) (upper_lent qs us r) r
halving g lo up c ps qs us r m p e = record {
  deeper = m.1.0;
  more = m.0;
  sides = p;
  lower_half = m.1.1;
  upper_half = m.1.2;
  lower_points = refl;
  upper_points = upper_part qs us r p.within e;
}

module _ {g lo up : GridBox} {c : ℕ} {ps qs us vs : List Keys} {r : ℕ} (H : Halving g lo up c ps qs us vs r) where
  abbrev s : Space
  s = g.space.now

  abbrev l : ℕ
  l = g.level

  abbrev b : Path
  b = box_of g

  abbrev lower : List Path
  lower = leaves_in s (l + 1) c (take r qs)

  abbrev upper : List Path
  upper = leaves_in s (l + 1) c (drop r qs)

  abbrev all_leaves : List Path
  all_leaves = leaves_in s l c ps

  parted : all_leaves ≡ both lower upper
  parted = leaves_parted s l H.deeper ps qs r H.sides c H.more

  pub both_shuffled : (as' bs : List Keys) → IsPermutation us as' → IsPermutation vs bs → IsPermutation ps (as' ++ bs)
  both_shuffled as' bs a d =
      IsPermutation-trans ps qs (as' ++ bs) H.sides.same_points
      (subst (λ ts. IsPermutation ts (as' ++ bs)) (ap₂ (λ x y. x ++ y) H.lower_points H.upper_points ∙ take-append-drop r qs) (shuffled_append us as' vs bs a d))

  -- what was found of the halves
  module _ (x y : Survey) (fx : Surveyed lo.space.now lo.level (box_of lo) c us x) (fy : Surveyed up.space.now up.level (box_of up) c vs y) where
    low_found : Surveyed s (l + 1) (half b false) c (take r qs) x
    low_found = as_half g lo false H.lower_half (λ t m q. Surveyed t m q c (take r qs) x) (subst (λ ts. Surveyed lo.space.now lo.level (box_of lo) c ts x) H.lower_points fx)

    high_found : Surveyed s (l + 1) (half b true) c (drop r qs) y
    high_found = as_half g up true H.upper_half (λ t m q. Surveyed t m q c (drop r qs) y) (subst (λ ts. Surveyed up.space.now up.level (box_of up) c ts y) H.upper_points fy)

    both_long : (as' bs : List Path) → length (both as' bs) ≡ length as' + length bs
    both_long as' bs = omega (arith, length-append (map (λ d. false ∷ d) as') (map (λ d. true ∷ d) bs), length-map as' (λ d. false ∷ d), length-map bs (λ d. true ∷ d))

    leaf_sum : x.leaf_boxes + y.leaf_boxes ≡ length all_leaves
    leaf_sum = omega (arith, low_found.leaf_number, high_found.leaf_number, ap length parted, both_long lower upper)

    -- the numbers fit
    pub leaf_boxes_fit : x.leaf_boxes + y.leaf_boxes ≤ 1152921504606846976
    leaf_boxes_fit = omega (arith, leaf_sum, cuts_bound (s.depth - l) (few c (ways_on s l ps)) (few c (ways_on s l ps) []), pow_mono {i = s.depth - l} {j = 60} (omega (arith, s.short)))

    module _ (o : Option Scales) (j : HalvesJoined s.keys x.scales y.scales o) where
      found : Found s b all_leaves o
      found = subst (λ ls. Found s b ls o) (sym parted) (found_joined s b lower upper x.scales y.scales o j low_found.lower_ends high_found.lower_ends)

      pub keeps_all : keeps_in s b all_leaves ≡ is_some o
      keeps_all = found_keeps s b all_leaves o found

      keeps : keeps_in s b (both lower upper) ≡ is_some o
      keeps = found_keeps s b (both lower upper) o (subst (λ ls. Found s b ls o) parted found)

      pub surveyed_shut : is_some o ≡ true → Surveyed s l b c ps record { leaf_boxes = x.leaf_boxes + y.leaf_boxes; directory_boxes = 1; scales = o }
      surveyed_shut e = record {
        leaf_number = leaf_sum;
        directory_number = sym (ap length (directory_alone s l b all_leaves (ap (keeps_in s b) parted ∙ keeps ∙ e)));
        lower_ends = found;
      }

      directory_sum : is_some o ≡ false → x.directory_boxes + y.directory_boxes ≡ length (directories_in s l b all_leaves)
      directory_sum e =
          omega (
            arith,
            low_found.directory_number,
            high_found.directory_number,
            ap (λ ls. length (directories_in s l b ls)) parted,
            number_open s l H.deeper b lower upper 0 (keeps ∙ e),
          )

      pub directory_boxes_fit : is_some o ≡ false → x.directory_boxes + y.directory_boxes ≤ 1152921504606846976
      directory_boxes_fit e =
          let f = fits_from (widths_of s) (order_of s) b all_leaves in
          omega (arith, directory_sum e, cuts_bound (s.depth - l) f (f []), pow_mono {i = s.depth - l} {j = 60} (omega (arith, s.short)))

      pub surveyed_open : is_some o ≡ false → Surveyed s l b c ps record { leaf_boxes = x.leaf_boxes + y.leaf_boxes; directory_boxes = x.directory_boxes + y.directory_boxes; scales = o }
      surveyed_open e = record { leaf_number = leaf_sum; directory_number = directory_sum e; lower_ends = found }

      -- what was noted
      module _ (key : ℕ) (inside : key < s.keys) (r0 r1 r2 : List ℕ)
          (notes_lower : Noted lo.space.now lo.level (box_of lo) (leaves_in lo.space.now lo.level c us) key r1)
          (notes_upper : Noted up.space.now up.level (box_of up) (leaves_in up.space.now up.level c vs) key r2)
          (n : ℕ) (en : n ≡ min x.directory_boxes (length r1)) (e2 : length r2 ≡ length r1 - n) where
        low_notes : Noted s (l + 1) (half b false) lower key r1
        low_notes =
            as_half g lo false H.lower_half (λ t m q. Noted t m q (leaves_in t m c (take r qs)) key r1)
            (subst (λ ts. Noted lo.space.now lo.level (box_of lo) (leaves_in lo.space.now lo.level c ts) key r1) H.lower_points notes_lower)

        high_notes : Noted s (l + 1) (half b true) upper key r2
        high_notes =
            as_half g up true H.upper_half (λ t m q. Noted t m q (leaves_in t m c (drop r qs)) key r2)
            (subst (λ ts. Noted up.space.now up.level (box_of up) (leaves_in up.space.now up.level c ts) key r2) H.upper_points notes_upper)

        pub notes_open : is_some o ≡ false → Noted s l b all_leaves key (take n r1 ++ r2)
        notes_open e = subst (λ ls. Noted s l b ls key (take n r1 ++ r2)) (sym parted) (λ room.
            let sum = number_open s l H.deeper b lower upper 0 (keeps ∙ e) in
            let long : length (take n r1 ++ r2) ≡ length r1 = omega (arith, length-append (take n r1) r2, length-take n r1) in
            let all_in : n ≡ length (directories_in s (l + 1) (half b false) lower) = omega (arith, low_found.directory_number) in
            subst (λ m. take (length (directories_in s l b (both lower upper))) (take m r1 ++ r2) ≡ ends_in s b (directories_in s l b (both lower upper)) key) (sym all_in)
            (noted_open s l H.deeper b lower upper key (keeps ∙ e) r1 r2 (omega arith) (omega arith) low_notes high_notes))
