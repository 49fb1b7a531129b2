-- Points on the same side of every lower end of a tiling lie in one piece.
use Rattle.std.proofs.Common.{◌≡◌, ℕ, suc, ◌+◌, ◌<◌, ◌≤◌, Bool, true, false, ◌⊎◌, List, [], ◌∷◌, ◌++◌, length, get_or, drop, sym, refl, ap, ◌∙◌, subst, inl, inr, append_assoc, append-nil, arith, length-append}
use Rattle.std.proofs.lemmas.Bool.{cases_lt, cases_Bool, both_ways}
use Rattle.boxes.specs.Cuts.{Path, In, half, around}
use Rattle.boxes.specs.Points.{Names, Point, path, lows}
use Rattle.boxes.specs.Space.{Lies}
use Rattle.boxes.proofs.Lows.{around_self, lows_least, lows_point, path_lows, length_path}
use Rattle.boxes.proofs.Spans.{around_lies, lies_around}
use Rattle.boxes.proofs.Refine.{around_trans, around_next}
use Rattle.boxes.proofs.Ladder.{around_at, around_front}
use Rattle.boxes.proofs.Directories.{around_long}
use Rattle.boxes.proofs.Changes.{around_split}
use Rattle.boxes.proofs.Cells.{order_in, upper_from, lower_below}
use Rattle.images.specs.Tilings.{Piece, Tiling, tile_of, found}
use Rattle.images.proofs.Boxing.{deeper}

-- the piece found around a point
pub found_is : (w : Path) (ts : List Piece) (t : Piece) → In t ts → around t.box w ≡ true → ((u : Piece) → In u ts → around u.box w ≡ true → u ≡ t) → found w ts ≡ tile_of t
found_is w [] t i a only = elim i [ ]
found_is w (u ∷ ts) t i a only = elim (cases_Bool (around u.box w)) [
  | inl e ↦ rw e (ap tile_of (only u (inl refl) e))
  | inr e ↦ rw e (found_is w ts t (later e i) a (λ v k. only v (inr k)))
]
  where
    later : around u.box w ≡ false → In t (u ∷ ts) → In t ts
    later e (inl q) = absurd (both_ways (around u.box w) e (ap (λ (v : Piece). around v.box w) (sym q) ∙ a))
    later e (inr k) = k

module _ (ws ord : List ℕ) (h : Names ws ord) (b : Path) (ts : List Piece) (tiling : Tiling ws ord b ts) where
  abbrev way : List ℕ → Path
  way ps = path ws ord ps

  abbrev low : Path → ℕ → ℕ
  low d i = get_or (lows ws ord d) i 0

  -- on the same side of each lower end
  abbrev pub SameSide : List ℕ → List ℕ → Type 0
  SameSide ps qs = (t : Piece) → In t ts → (i : ℕ) → i < length ws → (low t.box i ≤ get_or ps i 0 → low t.box i ≤ get_or qs i 0) × (low t.box i ≤ get_or qs i 0 → low t.box i ≤ get_or ps i 0)

  -- pieces around one point are the same
  pub only_one : (ps : List ℕ) → Point ws ps → Lies ws ord b ps → (t u : Piece) → In t ts → In u ts → around t.box (way ps) ≡ true → around u.box (way ps) ≡ true → t ≡ u
  only_one ps p w t u it iu at au =
      let r = tiling.one ps p w in
      r.3 t it (around_lies t.box ws ord ps h p at) ∙ sym (r.3 u iu (around_lies u.box ws ord ps h p au))

  -- a box that has a piece strictly inside it, in b: the lower ends of its upper half are those of a piece
  cut_end : (ps : List ℕ) → Point ws ps → Lies ws ord b ps → (t : Piece) → In t ts → around t.box (way ps) ≡ true
      → (d : Path) → around b d ≡ true → around d t.box ≡ true → length d < length t.box → (i : ℕ) → i < length ws
      → (u : Piece) × In u ts × (low u.box i ≡ low (half d true) i)
  cut_end ps p w t it at d bd dt l i k =
      let c = lows ws ord (half d true) in
      let n : length (half d true) ≡ suc (length d) = length-append d (true ∷ []) ∙ (omega arith) in
      let short : length (half d true) ≤ length ord = omega (arith, tiling.levels t it) in
      let pc = lows_point ws ord (half d true) h in
      let ac = path_lows (half d true) ws ord h short in
      let dc = around_trans d (half d true) (way c) (around_at d (true ∷ [])) ac in
      let r = tiling.one c pc (around_lies b ws ord c h pc (around_trans b d (way c) bd dc)) in
      let u = r.0 in
      let au = lies_around u.box ws ord c h (tiling.levels u r.1) pc r.2 in
      elim (cases_lt (length d) (length u.box)) [
        | inl m ↦
            let inside = deeper (half d true) u.box (way c) (omega arith) ac au in
            let pu = lows_point ws ord u.box h in
            let down = lows_least u.box ws ord c h pc au i k in
            let up = lows_least (half d true) ws ord (lows ws ord u.box) h pu
            (around_trans (half d true) u.box (way (lows ws ord u.box)) inside (path_lows u.box ws ord h (tiling.levels u r.1))) i k in
            (u, r.1, omega arith)
        | inr m ↦
            let ud = deeper u.box d (way c) m au dc in
            let ut = around_trans u.box d t.box ud dt in
            let e = only_one ps p w t u it r.1 at (around_trans u.box t.box (way ps) ut at) in
            absurd (omega (arith, ap (λ (v : Piece). length v.box) e))
      ]

  -- the cell theorem
  cell_go : (ps qs : List ℕ) → Point ws ps → Point ws qs → Lies ws ord b ps → SameSide ps qs → (t : Piece) → In t ts → around t.box (way ps) ≡ true
      → (e d : Path) → t.box ≡ d ++ e → around b d ≡ true → around d (way qs) ≡ true → around t.box (way qs) ≡ true
  cell_go ps qs p q w s t it at [] d eq bd dq = rw (eq, append-nil) dq
  cell_go ps qs p q w s t it at (x ∷ e) d eq bd dq =
      let moved : t.box ≡ half d x ++ e = eq ∙ sym (append_assoc d (x ∷ []) e) in
      let n : length t.box ≡ length d + suc (length e) = ap length eq ∙ length-append d (x ∷ e) in
      let long : length d < length ord = omega (arith, tiling.levels t it) in
      let dt : around d t.box ≡ true = rw eq (around_at d (x ∷ e)) in
      let hp : around (half d x) (way ps) ≡ true = around_front (half d x) e (way ps) (subst (λ f. around f (way ps) ≡ true) moved at) in
      let r = cut_end ps p w t it at d bd dt (omega arith) (get_or ord (length d) 0) (order_in ws ord h (length d) long) in
      let here = side x hp (around_next d (way qs) dq) long r.0 r.1 r.2 in
      cell_go ps qs p q w s t it at e (half d x) moved (around_trans b d (half d x) bd (around_at d (x ∷ []))) here
    where
      key : ℕ
      key = get_or ord (length d) 0

      side : (y : Bool) → around (half d y) (way ps) ≡ true → (way qs ≡ d) ⊎ ((z : Bool) × (around (half d z) (way qs) ≡ true)) → length d < length ord
          → (u : Piece) → In u ts → low u.box key ≡ low (half d true) key → around (half d y) (way qs) ≡ true
      side y a (inl f) long u iu k = absurd (omega (arith, ap length f, length_path ws ord qs))
      side true a (inr (true, m)) long u iu k = m
      side false a (inr (false, m)) long u iu k = m
      side true a (inr (false, m)) long u iu k =
          let z = (s u iu key (order_in ws ord h (length d) long)).0 in
          absurd (omega (arith, lower_below ws ord qs d h q long m, z (omega (arith, upper_from ws ord ps d h p long a))))
      side false a (inr (true, m)) long u iu k =
          let z = (s u iu key (order_in ws ord h (length d) long)).1 in
          absurd (omega (arith, lower_below ws ord ps d h p long a, z (omega (arith, upper_from ws ord qs d h q long m))))

  pub cell_piece : (ps qs : List ℕ) → Point ws ps → Point ws qs → Lies ws ord b ps → Lies ws ord b qs → SameSide ps qs → (t : Piece) → In t ts
      → around t.box (way ps) ≡ true → around t.box (way qs) ≡ true
  cell_piece ps qs p q w v s t it at =
      let short : length b ≤ length ord = omega (arith, tiling.levels t it, around_long b t.box (tiling.within t it)) in
      cell_go ps qs p q w s t it at (drop (length b) t.box) b (around_split b t.box (tiling.within t it)) (around_self b) (lies_around b ws ord qs h short q v)
