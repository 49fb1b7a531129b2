-- What the survey of a box finds, from what it finds of its halves.
use Rattle.std.proofs.Common.{◌≡◌, ℕ, zero, suc, ◌+◌, ◌-◌, ◌<◌, ◌≤◌, Bool, true, false, ◌⊎◌, List, [], ◌∷◌, ◌++◌, map, length, get_or, take, Some, None, Option, sym, refl, ap, ◌∙◌, subst, ap₂, inl, inr, append_assoc, append-nil, arith}
use Rattle.std.proofs.lemmas.List.{length-append, length-map, length-take-le, map-append}
use Rattle.std.proofs.lemmas.Bool.{true≢false}
use Rattle.boxes.specs.declared.rising_ends.RisingEnds.{RisingEnds}
use Rattle.boxes.specs.declared.scales.Scales.{Scales}
use Rattle.boxes.specs.declared.space.Space.{Space}
use Rattle.boxes.specs.Cuts.{Path, In, half}
use Rattle.boxes.specs.Directories.{distinct, limits}
use Rattle.boxes.specs.Fitting.{directories_from}
use Rattle.boxes.specs.RisingEnds.{ends_of}
use Rattle.boxes.specs.Points.{lows}
use Rattle.boxes.specs.Rising.{Rising}
use Rattle.boxes.specs.Scales.{scale, both_scales, HalvesJoined}
use Rattle.boxes.specs.Spaces.{widths_of, order_of}
use Rattle.boxes.specs.Surveys.{ends_in, keeps_in, directories_in, Found, Noted}
use Rattle.boxes.proofs.Cuts.{in_left, in_right, in_append}
use Rattle.boxes.proofs.Directories.{limits_mono, ones_limits}
use Rattle.boxes.proofs.DirectoryCount.{directories_shut, directories_open, kept_all, limits_same}
use Rattle.boxes.proofs.Distinct.{more_distinct}
use Rattle.boxes.proofs.Gathered.{in_insert_all, insert_all_in, gathered}
use Rattle.boxes.proofs.HalfLeaves.{both}
use Rattle.boxes.proofs.Insertion.{rising_insert_all}

not_true : (t : Bool) → (t ≡ true → ⊥) → t ≡ false
not_true true h = absurd (h refl)
not_true false h = refl

scale_rises : (e : Scales) (i : ℕ) → Rising (scale e i)
scale_rises e i = go e.ends i
  where
    go : (es : List RisingEnds) (j : ℕ) → Rising (get_or (map ends_of es) j [])
    go [] j = λ k h. absurd (omega arith)
    go (d ∷ es) zero = d.rising
    go (d ∷ es) (suc j) = go es j

-- the limits of a box and of its halves
module _ (s : Space) (b : Path) where
  ends_below : (x : Bool) (bs : List Path) (i : ℕ) → ends_in s b (map (λ d. x ∷ d) bs) i ≡ ends_in s (half b x) bs i
  ends_below x [] i = refl
  ends_below x (d ∷ bs) i = ap₂ (λ (n : ℕ) (us : List ℕ). n ∷ us) (ap (λ q. get_or (lows (widths_of s) (order_of s) q) i 0) (sym (append_assoc b (x ∷ []) d))) (ends_below x bs i)

  pub ends_both : (ls us : List Path) (i : ℕ) → ends_in s b (both ls us) i ≡ ends_in s (half b false) ls i ++ ends_in s (half b true) us i
  ends_both ls us i =
      map-append (λ d. get_or (lows (widths_of s) (order_of s) (b ++ d)) i 0) (map (λ d. false ∷ d) ls) (map (λ d. true ∷ d) us)
      ∙ ap₂ (λ vs ws. vs ++ ws) (ends_below false ls i) (ends_below true us i)

  pub ends_self : (i : ℕ) → ends_in s b ([] ∷ []) i ≡ get_or (lows (widths_of s) (order_of s) b) i 0 ∷ []
  ends_self i = ap (λ q. get_or (lows (widths_of s) (order_of s) q) i 0 ∷ []) (append-nil b)

  keeps_is : (ls : List Path) → keeps_in s b ls ≡ limits 60 80 s.keys (λ i. length (distinct (ends_in s b ls i)))
  keeps_is ls =
      ap (λ us. limits 60 80 (length (widths_of s)) (λ i. length (distinct (ends_in s b us i)))) (kept_all ls)
      ∙ ap (λ k. limits 60 80 k (λ i. length (distinct (ends_in s b ls i)))) s.wide

  pub keeps_one : keeps_in s b ([] ∷ []) ≡ true
  keeps_one = ones_limits (length (widths_of s)) _ (λ i. omega arith)

-- a box and its halves, with the leaf boxes in them
module _ (s : Space) (b : Path) (ls us : List Path) where
  lower_in : (i x : ℕ) → In x (ends_in s (half b false) ls i) → In x (ends_in s b (both ls us) i)
  lower_in i x k = subst (In x) (sym (ends_both s b ls us i)) (in_left x (ends_in s (half b false) ls i) (ends_in s (half b true) us i) k)

  upper_in : (i x : ℕ) → In x (ends_in s (half b true) us i) → In x (ends_in s b (both ls us) i)
  upper_in i x k = subst (In x) (sym (ends_both s b ls us i)) (in_right x (ends_in s (half b false) ls i) (ends_in s (half b true) us i) k)

  in_either : (i x : ℕ) → In x (ends_in s b (both ls us) i) → In x (ends_in s (half b false) ls i) ⊎ In x (ends_in s (half b true) us i)
  in_either i x k = in_append x (ends_in s (half b false) ls i) (ends_in s (half b true) us i) (subst (In x) (ends_both s b ls us i) k)

  -- halves of a box that keeps the limits keep them
  pub keeps_lower : keeps_in s b (both ls us) ≡ true → keeps_in s (half b false) ls ≡ true
  keeps_lower e =
      keeps_is s (half b false) ls
      ∙ limits_mono 60 80 s.keys (λ i. length (distinct (ends_in s (half b false) ls i))) (λ i. length (distinct (ends_in s b (both ls us) i)))
      (λ i. more_distinct (ends_in s (half b false) ls i) (ends_in s b (both ls us) i) (lower_in i)) (sym (keeps_is s b (both ls us)) ∙ e)

  pub keeps_upper : keeps_in s b (both ls us) ≡ true → keeps_in s (half b true) us ≡ true
  keeps_upper e =
      keeps_is s (half b true) us
      ∙ limits_mono 60 80 s.keys (λ i. length (distinct (ends_in s (half b true) us i))) (λ i. length (distinct (ends_in s b (both ls us) i)))
      (λ i. more_distinct (ends_in s (half b true) us i) (ends_in s b (both ls us) i) (upper_in i)) (sym (keeps_is s b (both ls us)) ∙ e)

  -- the ends of both halves together
  module _ (a c : Scales) (fa : Found s (half b false) ls (Some a)) (fc : Found s (half b true) us (Some c)) where
    joined_in : (i : ℕ) → i < s.keys → (x : ℕ) → In x (both_scales a c i) → In x (ends_in s b (both ls us) i)
    joined_in i h x k = elim (in_insert_all x (scale c i) (scale a i) k) [ inl m ↦ upper_in i x ((fc.1 i h x).0 m) | inr m ↦ lower_in i x ((fa.1 i h x).0 m) ]

    in_joined : (i : ℕ) → i < s.keys → (x : ℕ) → In x (ends_in s b (both ls us) i) → In x (both_scales a c i)
    in_joined i h x k = insert_all_in x (scale c i) (scale a i) (elim (in_either i x k) [ inl m ↦ inr ((fa.1 i h x).1 m) | inr m ↦ inl ((fc.1 i h x).1 m) ])

    keeps_joined : limits 60 80 s.keys (λ i. length (both_scales a c i)) ≡ keeps_in s b (both ls us)
    keeps_joined =
        limits_same 60 80 s.keys (λ i. length (both_scales a c i)) (λ i. length (distinct (ends_in s b (both ls us) i)))
        (λ i h. gathered (both_scales a c i) (ends_in s b (both ls us) i) (rising_insert_all (scale c i) (scale a i) (scale_rises a i)) (joined_in i h) (in_joined i h))
        ∙ sym (keeps_is s b (both ls us))

  pub found_joined : (low high r : Option Scales) → HalvesJoined s.keys low high r → Found s (half b false) ls low → Found s (half b true) us high → Found s b (both ls us) r
  found_joined None high r j fl fh = subst (Found s b (both ls us)) (sym j) (not_true (keeps_in s b (both ls us)) (λ e. true≢false (sym (keeps_lower e) ∙ fl)))
  found_joined (Some a) None r j fl fh = subst (Found s b (both ls us)) (sym j) (not_true (keeps_in s b (both ls us)) (λ e. true≢false (sym (keeps_upper e) ∙ fh)))
  found_joined (Some a) (Some c) None j fl fh = sym (keeps_joined a c fl fh) ∙ j
  found_joined (Some a) (Some c) (Some e) j fl fh = (
    sym (keeps_joined a c fl fh) ∙ j.0,
    λ i h x. ((λ k. joined_in a c fl fh i h x (subst (In x) (j.1 i h) k)), (λ k. subst (In x) (sym (j.1 i h)) (in_joined a c fl fh i h x k))),
  )

  -- the directory boxes of a box that passes a limit
  module _ (l : ℕ) (k : l < s.depth) where
    pub directories_both : keeps_in s b (both ls us) ≡ false → directories_in s l b (both ls us) ≡ both (directories_in s (l + 1) (half b false) ls) (directories_in s (l + 1) (half b true) us)
    directories_both e =
        let z : s.depth - l ≡ suc (s.depth - (l + 1)) = omega arith in
        ap (λ n. directories_from (widths_of s) (order_of s) n b (both ls us)) z ∙ directories_open (widths_of s) (order_of s) b (s.depth - (l + 1)) ls us e

-- a box that keeps the limits is its one directory box
pub directory_alone : (s : Space) (l : ℕ) (b : Path) (ls : List Path) → keeps_in s b ls ≡ true → directories_in s l b ls ≡ [] ∷ []
directory_alone s l b ls e = directories_shut (widths_of s) (order_of s) b (s.depth - l) ls e

-- the lower ends in one key of the directory boxes, noted by both halves and then by the box
module _ (s : Space) (l : ℕ) (k : l < s.depth) (b : Path) (ls us : List Path) (key : ℕ) where
  abbrev pub lower_number : ℕ
  lower_number = length (directories_in s (l + 1) (half b false) ls)

  abbrev pub upper_number : ℕ
  upper_number = length (directories_in s (l + 1) (half b true) us)

  abbrev pub whole_number : ℕ
  whole_number = length (directories_in s l b (both ls us))

  both_long : (as' bs : List Path) → length (both as' bs) ≡ length as' + length bs
  both_long as' bs = omega (arith, length-append (map (λ d. false ∷ d) as') (map (λ d. true ∷ d) bs), length-map as' (λ d. false ∷ d), length-map bs (λ d. true ∷ d))

  pub number_open : keeps_in s b (both ls us) ≡ false → whole_number ≡ lower_number + upper_number
  number_open e = ap length (directories_both s b ls us l k e) ∙ both_long (directories_in s (l + 1) (half b false) ls) (directories_in s (l + 1) (half b true) us)

  -- the lower ends noted of both halves, one behind the other
  pub noted_open : keeps_in s b (both ls us) ≡ false → (r1 r2 : List ℕ) → whole_number ≤ length r1 → length r2 ≡ length r1 - lower_number
      → Noted s (l + 1) (half b false) ls key r1 → Noted s (l + 1) (half b true) us key r2
      → take whole_number (take lower_number r1 ++ r2) ≡ ends_in s b (directories_in s l b (both ls us)) key
  noted_open e r1 r2 room long low high =
      let sum = number_open e in
      let first : length (take lower_number r1) ≡ lower_number = length-take-le lower_number r1 (omega arith) in
      ap (λ n. take n (take lower_number r1 ++ r2)) sum
      ∙ ap (λ n. take (n + upper_number) (take lower_number r1 ++ r2)) (sym first)
      ∙ take_append_add (take lower_number r1) r2 upper_number
      ∙ ap₂ (λ vs ws. vs ++ ws) (low (omega arith)) (high (omega arith))
      ∙ sym (ap (λ bs. ends_in s b bs key) (directories_both s b ls us l k e) ∙ ends_both s b (directories_in s (l + 1) (half b false) ls) (directories_in s (l + 1) (half b true) us) key)
    where
      take_append_add : (vs ws : List ℕ) (n : ℕ) → take (length vs + n) (vs ++ ws) ≡ vs ++ take n ws
      take_append_add [] ws n = ap (λ m. take m ws) (omega arith)
      take_append_add (v ∷ vs) ws n = rw (add_suc_left (length vs) n) (ap (λ ts. v ∷ ts) (take_append_add vs ws n))
        where
          add_suc_left : (a m : ℕ) → suc a + m ≡ suc (a + m)
          add_suc_left a m = omega arith
