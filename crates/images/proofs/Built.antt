-- The image of a tiling is lawful, and names at each point the piece around it.
use Rattle.std.proofs.Common.{◌≡◌, ℕ, ◌<◌, ◌≤◌, true, ◌⊎◌, List, [], length, get_or, sym, ap, ◌∙◌, subst, inl, inr, arith}
use Rattle.std.proofs.lemmas.Bool.{cases_lt}
use Rattle.boxes.specs.Cuts.{Path, In, around}
use Rattle.boxes.specs.Points.{Names, Point, path, lows}
use Rattle.boxes.specs.Space.{Lies, box_at}
use Rattle.boxes.proofs.Cuts.{in_map, in_map_back}
use Rattle.boxes.proofs.Lows.{length_lows, lows_point, path_lows, around_take, box_from_lows}
use Rattle.boxes.proofs.Spans.{around_lies, lies_around}
use Rattle.boxes.proofs.Refine.{around_trans}
use Rattle.boxes.proofs.Directories.{around_long}
use Rattle.images.specs.Directory.{Tile, Image, Lawful, tile_at, place_from, intervals, inner}
use Rattle.images.specs.Cells.{corner}
use Rattle.images.specs.Tilings.{Piece, Tiling, Scaled, tile_of, found, over, lower_ends, scales_of, built}
use Rattle.images.proofs.Places.{position_same, place_same, place_below, place_corner}
use Rattle.images.proofs.Scales.{length_listed, get_or_listed, get_or_in, up_rising, over_in, in_over, over_up}
use Rattle.images.proofs.Boxing.{corner_lies, corner_point}
use Rattle.images.proofs.Tilings.{found_is, SameSide, only_one, cell_piece}

module _ (ws ord : List ℕ) (h : Names ws ord) (b : Path) (ts : List Piece) (tiling : Tiling ws ord b ts) (short : length b ≤ length ord) where
  abbrev way : List ℕ → Path
  way ps = path ws ord ps

  abbrev low : Path → ℕ → ℕ
  low d i = get_or (lows ws ord d) i 0

  abbrev es : List (List ℕ)
  es = scales_of ws ord b ts

  abbrev img : Image
  img = built ws ord b ts

  long : length es ≡ length ws
  long = length_listed (length ws) (λ i. over (low b i) (lower_ends ws ord i ts))

  scale : (i : ℕ) → i < length ws → get_or es i [] ≡ over (low b i) (lower_ends ws ord i ts)
  scale i l = get_or_listed (length ws) (λ j. over (low b j) (lower_ends ws ord j ts)) i [] l

  -- an end is a piece's lower end, above b's own
  pub end_piece : (i : ℕ) → i < length ws → (x : ℕ) → In x (get_or es i []) → (low b i < x) × ((t : Piece) × (x ≡ low t.box i) × In t ts)
  end_piece i l x m =
      let r = over_in x (low b i) (lower_ends ws ord i ts) (subst (λ (u : List ℕ). In x u) (scale i l) m) in
      (r.1, in_map_back (λ t. low t.box i) x ts r.0)

  pub piece_end : (i : ℕ) → i < length ws → (t : Piece) → In t ts → (low t.box i ≤ low b i) ⊎ In (low t.box i) (get_or es i [])
  piece_end i l t it = elim (cases_lt (low b i) (low t.box i)) [
    | inl k ↦ inr (subst (λ (u : List ℕ). In (low t.box i) u) (sym (scale i l)) (in_over (low t.box i) (low b i) (lower_ends ws ord i ts) (in_map (λ u. low u.box i) t ts it) k))
    | inr k ↦ inl k
  ]

  -- a piece's lower ends are a point of the piece and of b
  corner_in : (t : Piece) → In t ts → around t.box (way (lows ws ord t.box)) ≡ true
  corner_in t it = path_lows t.box ws ord h (tiling.levels t it)

  pub corner_b : (t : Piece) → In t ts → Lies ws ord b (lows ws ord t.box)
  corner_b t it = around_lies b ws ord (lows ws ord t.box) h (lows_point ws ord t.box h) (around_trans b t.box (way (lows ws ord t.box)) (tiling.within t it) (corner_in t it))

  pub scaled : Scaled ws ord b es
  scaled = record {
    long = long;
    up = λ i l. let k : i < length ws = omega (arith, long) in rw (scale i k) (over_up (low b i) (lower_ends ws ord i ts));
    within = λ i l x m. let r = (end_piece i l x m).1 in omega (arith, r.1, (corner_b r.0 r.2 i l).1);
  }

  same_side : (ps qs : List ℕ) → Point ws ps → Point ws qs → Lies ws ord b ps → Lies ws ord b qs → place_from 0 es ps ≡ place_from 0 es qs → SameSide ws ord h b ts tiling ps qs
  same_side ps qs p q w v e t it i l =
      let k : i < length es = omega (arith, long) in
      let lp : length ps ≡ length es = p.long ∙ sym long in
      let lq : length qs ≡ length es = q.long ∙ sym long in
      let s = place_same es ps qs lp lq e i k in
      elim (piece_end i l t it) [
        | inl m ↦ ((λ _. omega (arith, (v i l).0)), (λ _. omega (arith, (w i l).0)))
        | inr m ↦ (
          position_same (low b i) (get_or ps i 0) (get_or qs i 0) (get_or es i []) (scaled.up i k) s (low t.box i) m,
          position_same (low b i) (get_or qs i 0) (get_or ps i 0) (get_or es i []) (scaled.up i k) (sym s) (low t.box i) m,
        )
      ]

  -- what the image names at a point is the piece around it
  pub built_at : (ps : List ℕ) → Point ws ps → Lies ws ord b ps → (t : Piece) → In t ts → around t.box (way ps) ≡ true → tile_at img ps ≡ tile_of t
  built_at ps p w t it at =
      let n = place_from 0 es ps in
      let ls = lows ws ord b in
      let c = corner ls es n in
      let k = place_below es ps (p.long ∙ sym long) in
      let pc = corner_point ws ord h b es scaled n k in
      let wc = corner_lies ws ord h b es scaled n k in
      let e = place_corner ls es n (length_lows ws ord b ∙ sym long) scaled.up k in
      let ac = cell_piece ws ord h b ts tiling ps c p pc w wc (same_side ps c p pc w wc (sym e)) t it at in
      get_or_listed (intervals es) (λ m. found (way (corner ls es m)) ts) n (record { page = 0; level = 0 }) k
      ∙ found_is (way c) ts t it ac (λ u iu au. only_one ws ord h b ts tiling c pc wc u t iu it au ac)

  piece_of : (ps : List ℕ) → Point ws ps → Lies ws ord b ps → (t : Piece) × In t ts × (around t.box (way ps) ≡ true) × (tile_at img ps ≡ tile_of t) × (box_at ws ord (length t.box) ps ≡ t.box)
  piece_of ps p w =
      let r = tiling.one ps p w in
      let a = lies_around r.0.box ws ord ps h (tiling.levels r.0 r.1) p r.2 in
      (r.0, r.1, a, built_at ps p w r.0 r.1 a, sym (around_take r.0.box (way ps) a))

  -- the box around a point, of the level that the image names, is the piece
  box_is : (ps : List ℕ) (t : Piece) → tile_at img ps ≡ tile_of t → box_at ws ord (length t.box) ps ≡ t.box → box_at ws ord (tile_at img ps).level ps ≡ t.box
  box_is ps t e q = ap (λ (z : Tile). box_at ws ord z.level ps) e ∙ q

  pub built_lawful : (n most_inner most_cells : ℕ) → ((t : Piece) → In t ts → (8 ≤ t.page) × (t.page < n)) → inner es ≤ most_inner → intervals es ≤ most_cells
      → Lawful ws ord b n most_inner most_cells img
  built_lawful n x y pages fi fc = record {
    scales = long;
    few_inner = fi;
    few_cells = fc;
    all_cells = length_listed (intervals es) (λ m. found (way (corner (lows ws ord b) es m)) ts);
    rising = λ i l. up_rising (low b i) (get_or es i []) (scaled.up i (omega (arith, long)));
    inside = λ i j l k. let m = get_or_in (get_or es i []) j 0 k in ((end_piece i l _ m).0, scaled.within i l _ m);
    used = λ i j l k.
        let r = (end_piece i l (get_or (get_or es i []) j 0) (get_or_in (get_or es i []) j 0 k)).1 in
        let t = r.0 in
        let q = lows ws ord t.box in
        let pq = lows_point ws ord t.box h in
        let e = built_at q pq (corner_b t r.2) t r.2 (corner_in t r.2) in
        (q, pq, corner_b t r.2, ap (λ (d : Path). low d i) (box_is q t e (box_from_lows t.box ws ord h (tiling.levels t r.2))) ∙ sym r.1);
    pages = λ p pp w. let r = piece_of p pp w in subst (λ (z : Tile). (8 ≤ z.page) × (z.page < n)) (sym r.3) (pages r.0 r.1);
    nested = λ p pp w. let r = piece_of p pp w in
        subst (λ (z : Tile). (length b ≤ z.level) × (z.level ≤ length ord)) (sym r.3) (around_long b r.0.box (tiling.within r.0 r.1), tiling.levels r.0 r.1);
    covers = λ p q pp w pq v e.
        let r = piece_of p pp w in
        subst (λ (d : Path). Lies ws ord d q) (sym (box_is p r.0 r.3 r.4))
        (around_lies r.0.box ws ord q h pq (cell_piece ws ord h b ts tiling p q pp pq w v (same_side p q pp pq w v e) r.0 r.1 r.2));
    alike = λ p q pp w pq v.
        let r = piece_of p pp w in
        let inq = lies_around r.0.box ws ord q h (tiling.levels r.0 r.1) pq (subst (λ (d : Path). Lies ws ord d q) (box_is p r.0 r.3 r.4) v) in
        let wq = around_lies b ws ord q h pq (around_trans b r.0.box (way q) (tiling.within r.0 r.1) inq) in
        built_at q pq wq r.0 r.1 inq ∙ sym r.3;
  }
