-- The capacity and the widths, from the numbers of the first line.
use Rattle.std.proofs.Common.{◌≡◌, ℕ, suc, ◌<◌, ◌≤◌, List, [], ◌∷◌, length, get_or, take, Some, None, Option, sym, refl, ap, ◌∙◌, subst, inl, inr, arith, ext_get_or}
use Rattle.std.proofs.lemmas.List.{get_or_past, get_or-take, length-take}
use Rattle.std.proofs.lemmas.Bool.{cases_lt}
use Rattle.boxes.specs.declared.keys.Keys.{Keys}
use Rattle.boxes.specs.declared.space.Space.{Space}
use Rattle.boxes.specs.KeyLists.{PointMade}
use Rattle.boxes.specs.Points.{Point}
use Rattle.boxes.specs.Spaces.{widths_of}
use Rattle.numbers.specs.Numbers.{Written}
use Rattle.sheet.specs.Rows.{Heads, PointRead}

-- the front of a list of which the places are known
pub front_is : (n m : ℕ) (xs ys : List ℕ) → length ys ≡ n → n ≤ m → m ≤ length xs → ((j : ℕ) → j < m → get_or xs j 0 ≡ get_or ys j 0) → take n xs ≡ ys
front_is n m xs ys e l h w = ext_get_or 0 (take n xs) ys (omega (arith, length-take n xs)) (λ i k. let j : i < n = omega (arith, length-take n xs) in get_or-take n xs i 0 j ∙ w i (omega arith))

module _ (line ns first : List ℕ) (one : (ms : List ℕ) → Written line ms → ms ≡ ns) (places : (j : ℕ) → j < 8 → get_or first j 0 ≡ get_or ns j 0) where
  -- what holds of the numbers of a line that writes a capacity and widths
  pub headed : (c : ℕ) (ws : List ℕ) → Heads line c ws → (2 ≤ length ns) × (length ns ≤ 5) × (1 ≤ get_or first 0 0) × (get_or first 0 0 ≤ 169)
  headed c ws h =
      let e = one (c ∷ ws) h.0 in
      let f : get_or first 0 0 ≡ c = places 0 (omega arith) ∙ ap (λ us. get_or us 0 0) (sym e) in
      (omega (arith, ap length e, h.3.0), omega (arith, ap length e, h.3.1), omega (arith, h.1), omega (arith, h.2))

  pub narrow : (c : ℕ) (ws : List ℕ) → Heads line c ws → (i : ℕ) → i < 4 → get_or first (suc i) 0 ≤ 32
  narrow c ws h i k =
      let e = one (c ∷ ws) h.0 in
      let f : get_or first (suc i) 0 ≡ get_or ws i 0 = places (suc i) (omega arith) ∙ ap (λ us. get_or us (suc i) 0) (sym e) in
      elim (cases_lt i (length ws)) [ inl l ↦ omega (arith, (h.3.2 i l).1) | inr g ↦ omega (arith, get_or_past ws i 0 g) ]

  -- the widths are the numbers behind the first
  pub widths_are : (c : ℕ) (ws w4 : List ℕ) (n : ℕ) → c ∷ ws ≡ ns → n ≡ length ws → n ≤ 4 → length w4 ≡ 4 → ((i : ℕ) → i < 4 → get_or w4 i 0 ≡ get_or first (suc i) 0) → take n w4 ≡ ws
  widths_are c ws w4 n e en l four at = front_is n 4 w4 ws (sym en) l (omega arith) (λ j h. at j h ∙ places (suc j) (omega arith) ∙ ap (λ us. get_or us (suc j) 0) (sym e))

-- a list of at least one number
pub first_and_rest : (ns : List ℕ) → 1 ≤ length ns → (c : ℕ) × (ws : List ℕ) × (c ∷ ws ≡ ns)
first_and_rest [] h = absurd (omega arith)
first_and_rest (n ∷ ns) h = (n, ns, refl)

-- the point of a row that writes these numbers and no others
pub point_read : (s : Space) (line ns : List ℕ) → Written line ns → ((ms : List ℕ) → Written line ms → ms ≡ ns) → (us : List ℕ) → us ≡ ns → (o : Option Keys) → PointMade s us o → PointRead s line o
point_read s line ns w one us e None m = λ ks g. m (subst (Point (widths_of s)) (one ks g.0 ∙ sym e) g.1)
point_read s line ns w one us e (Some p) m = (subst (Written line) (sym (m.1 ∙ e)) w, subst (Point (widths_of s)) (sym m.1) m.0)
