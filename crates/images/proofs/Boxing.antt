-- More of boxes: how deep, how far, and the corners of cells.
use Rattle.std.proofs.Common.{◌≡◌, ℕ, suc, ◌+◌, ◌-◌, ◌^◌, ◌<◌, ◌≤◌, Bool, true, false, ◌⊎◌, List, [], ◌∷◌, length, get_or, take, ap, ◌∙◌, inl, inr, arith, pow_pos}
use Rattle.boxes.specs.Order.{named}
use Rattle.std.proofs.lemmas.List.{get_or-set_same, get_or-set_other, length-set}
use Rattle.std.proofs.lemmas.Bool.{cases_eq}
use Rattle.boxes.specs.Cuts.{Path, around}
use Rattle.boxes.specs.Points.{Names, Point, less, left, lows}
use Rattle.boxes.specs.Space.{Lies}
use Rattle.boxes.proofs.Points.{names_pos, names_in, names_less}
use Rattle.boxes.proofs.Lows.{length_lows, get_or_zeros, around_self}
use Rattle.boxes.proofs.Spans.{span_is}
use Rattle.boxes.proofs.Refine.{nested}
use Rattle.boxes.proofs.Leaves.{around_full}
use Rattle.boxes.proofs.Directories.{around_long}
use Rattle.images.specs.Cells.{corner, digit}
use Rattle.images.specs.Directory.{intervals}
use Rattle.images.specs.Tilings.{Scaled}
use Rattle.images.proofs.Places.{length_corner, corner_at, digit_le, start_above}
use Rattle.images.proofs.Scales.{start_in}

-- of two boxes around a point the deeper lies in the other
pub deeper : (b d p : Path) → length b ≤ length d → around b p ≡ true → around d p ≡ true → around b d ≡ true
deeper b d p l i j = elim (nested b d p i j) [
  | inl k ↦ k
  | inr k ↦ rw (around_full d b (omega (arith, around_long d b k)) k) (around_self d)
]

-- a box ends inside the space
pub lows_room : (b : Path) (ws ord : List ℕ) → Names ws ord → (i : ℕ) → get_or (lows ws ord b) i 0 + 2 ^ get_or (left (length b) ws ord) i 0 ≤ 2 ^ get_or ws i 0
lows_room [] ws ord h i = rw get_or_zeros (omega arith)
lows_room (x ∷ b) ws [] h i = rw get_or_zeros (omega arith)
lows_room (x ∷ b) ws (j ∷ ord) h i = go x (lows_room b (less ws j) ord (names_less ws ord j h) i) (names_in ws ord j h) (names_pos ws ord j h)
    (omega (arith, length_lows (less ws j) ord b, length-set ws j (get_or ws j 0 - 1), names_in ws ord j h)) (cases_eq i j)
  where
    double : 1 ≤ get_or ws j 0 → 2 ^ get_or ws j 0 ≡ 2 ^ (get_or ws j 0 - 1) + 2 ^ (get_or ws j 0 - 1)
    double w = let k : get_or ws j 0 ≡ suc (get_or ws j 0 - 1) = omega arith in ap (λ n. 2 ^ n) k ∙ (omega arith)

    go : (y : Bool) → get_or (lows (less ws j) ord b) i 0 + 2 ^ get_or (left (length b) (less ws j) ord) i 0 ≤ 2 ^ get_or (less ws j) i 0
        → j < length ws → 1 ≤ get_or ws j 0 → j < length (lows (less ws j) ord b) → (i ≡ j) ⊎ (i ≡ j → ⊥)
        → get_or (lows ws (j ∷ ord) (y ∷ b)) i 0 + 2 ^ get_or (left (length b) (less ws j) ord) i 0 ≤ 2 ^ get_or ws i 0
    go true ih n w m (inl e) = rw (e, get_or-set_same) (omega (arith, double w, rw (e, get_or-set_same) at ih))
    go true ih n w m (inr ne) = rw get_or-set_other (rw get_or-set_other at ih)
    go false ih n w m (inl e) = rw e (omega (arith, double w, rw (e, get_or-set_same) at ih))
    go false ih n w m (inr ne) = rw get_or-set_other at ih

module _ (ws ord : List ℕ) (h : Names ws ord) (b : Path) (es : List (List ℕ)) (s : Scaled ws ord b es) where
  -- the corner of a cell is a point of the box
  pub corner_lies : (n : ℕ) → n < intervals es → Lies ws ord b (corner (lows ws ord b) es n)
  corner_lies n k i l =
      let ls = lows ws ord b in
      let li : i < length es = omega (arith, s.long) in
      let ll : length ls ≡ length es = omega (arith, s.long, length_lows ws ord b) in
      let d = digit_le es n i k li in
      rw (corner_at ls es n i ll li) (
        start_above (get_or ls i 0) (get_or es i []) (digit es i n) (s.up i li) d,
        elim (start_in (get_or ls i 0) (get_or es i []) (digit es i n) d) [
          | inl e ↦ omega (arith, pow_pos (get_or ws i 0 - named i (take (length b) ord)))
          | inr m ↦ s.within i l _ m
        ],
      )

  pub corner_point : (n : ℕ) → n < intervals es → Point ws (corner (lows ws ord b) es n)
  corner_point n k = record {
    long = length_corner (lows ws ord b) es n (omega (arith, s.long, length_lows ws ord b)) ∙ s.long;
    inside = λ i l. let r = (corner_lies n k i l).1 in let m = lows_room b ws ord h i in let e = span_is ws ord (length b) i h in omega arith;
  }
