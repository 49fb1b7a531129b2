-- A lawful image is a tiling: the boxes around its cells' corners.
use Rattle.std.proofs.Common.{◌≡◌, ℕ, ◌<◌, ◌≤◌, true, List, [], length, get_or, sym, ap, ◌∙◌, subst, arith}
use Rattle.std.proofs.lemmas.List.{length-take-le}
use Rattle.boxes.specs.Cuts.{Path, In, around}
use Rattle.boxes.specs.Points.{Names, Point, path, lows}
use Rattle.boxes.specs.Space.{Lies, box_at}
use Rattle.boxes.proofs.Lows.{length_lows, length_path, around_take}
use Rattle.boxes.proofs.Spans.{around_lies, lies_around}
use Rattle.boxes.proofs.Levels.{around_front_take}
use Rattle.images.specs.Directory.{Tile, Image, Lawful, tile_at, cell_of, intervals}
use Rattle.images.specs.Cells.{corner}
use Rattle.images.specs.Tilings.{Piece, Tiling, Scaled, piece_at, pieces}
use Rattle.images.proofs.Places.{place_below, place_corner}
use Rattle.images.proofs.Scales.{in_listed, listed_in, in_get_or, rising_up}
use Rattle.images.proofs.Boxing.{deeper, corner_lies, corner_point}

-- the box around a point is the box around each of its points
pub length_box_at : (ws ord ps : List ℕ) (l : ℕ) → l ≤ length ord → length (box_at ws ord l ps) ≡ l
length_box_at ws ord ps l k = length-take-le l (path ws ord ps) (omega (arith, length_path ws ord ps))

pub box_same : (ws ord ps qs : List ℕ) (l : ℕ) → Names ws ord → l ≤ length ord → Point ws qs → Lies ws ord (box_at ws ord l ps) qs → box_at ws ord l ps ≡ box_at ws ord l qs
box_same ws ord ps qs l h k q w =
    let n = length_box_at ws ord ps l k in
    let a = lies_around (box_at ws ord l ps) ws ord qs h (omega arith) q w in
    around_take (box_at ws ord l ps) (path ws ord qs) a ∙ ap (λ m. box_at ws ord m qs) n

module _ (ws ord : List ℕ) (h : Names ws ord) (b : Path) (short : length b ≤ length ord) (n most_inner most_cells : ℕ) (img : Image) (lawful : Lawful ws ord b n most_inner most_cells img) where
  abbrev es : List (List ℕ)
  es = img.ends

  pub lawful_scaled : Scaled ws ord b es
  lawful_scaled = record {
    long = lawful.scales;
    up = λ i l. let k : i < length ws = omega (arith, lawful.scales) in rising_up (get_or (lows ws ord b) i 0) (get_or es i []) (lawful.rising i k) (λ j m. (lawful.inside i j k m).0);
    within = λ i l x m. let r = in_get_or x (get_or es i []) 0 m in omega (arith, r.2, (lawful.inside i r.0 l r.1).1);
  }

  abbrev at_cell : ℕ → List ℕ
  at_cell m = corner (lows ws ord b) es m

  -- the corner of a point's cell
  pub cell_corner : (m : ℕ) → m < intervals es → cell_of img (at_cell m) ≡ m
  cell_corner m k = place_corner (lows ws ord b) es m (length_lows ws ord b ∙ sym lawful.scales) lawful_scaled.up k

  pub cell_below : (ps : List ℕ) → Point ws ps → cell_of img ps < intervals es
  cell_below ps p = place_below es ps (p.long ∙ sym lawful.scales)

  -- points of one box have one piece
  piece_same : (ps qs : List ℕ) → Point ws ps → Lies ws ord b ps → Point ws qs → Lies ws ord (box_at ws ord (tile_at img ps).level ps) qs → tile_at img qs ≡ tile_at img ps → piece_at ws ord img ps ≡ piece_at ws ord img qs
  piece_same ps qs p w q v e =
      let k = box_same ws ord ps qs (tile_at img ps).level h (lawful.nested ps p w).1 q v ∙ ap (λ (z : Tile). box_at ws ord z.level qs) (sym e) in
      let g : (tile_at img ps).page ≡ (tile_at img qs).page = ap (λ (z : Tile). z.page) (sym e) in
      λ i. record { box = k i; page = g i }

  pub piece_listed : (ps : List ℕ) → Point ws ps → Lies ws ord b ps → In (piece_at ws ord img ps) (pieces ws ord b img)
  piece_listed ps p w =
      let m = cell_of img ps in
      let k = cell_below ps p in
      let c = at_cell m in
      let pc = corner_point ws ord h b es lawful_scaled m k in
      let wc = corner_lies ws ord h b es lawful_scaled m k in
      let e = cell_corner m k in
      let z : tile_at img ps ≡ tile_at img c = ap (λ j. get_or img.cells j (record { page = 0; level = 0 })) (sym e) in
      subst (λ (u : Piece). In u (pieces ws ord b img)) (piece_same c ps pc wc p (lawful.covers c ps pc wc p w e) z)
      (in_listed (intervals es) (λ j. piece_at ws ord img (at_cell j)) m k)

  pub pieces_tile : Tiling ws ord b (pieces ws ord b img)
  pieces_tile = record {
    within = λ t it.
        let r = listed_in (intervals es) (λ j. piece_at ws ord img (at_cell j)) t it in
        let c = at_cell r.0 in
        let pc = corner_point ws ord h b es lawful_scaled r.0 r.1 in
        let wc = corner_lies ws ord h b es lawful_scaled r.0 r.1 in
        let v = lawful.nested c pc wc in
        let l = (tile_at img c).level in
        let n' = length_box_at ws ord c l v.1 in
        subst (λ (u : Piece). around b u.box ≡ true) (sym r.2)
        (deeper b (box_at ws ord l c) (path ws ord c) (omega (arith, v.0, n')) (lies_around b ws ord c h short pc wc) (around_front_take l (path ws ord c)));
    levels = λ t it.
        let r = listed_in (intervals es) (λ j. piece_at ws ord img (at_cell j)) t it in
        let c = at_cell r.0 in
        let v = lawful.nested c (corner_point ws ord h b es lawful_scaled r.0 r.1) (corner_lies ws ord h b es lawful_scaled r.0 r.1) in
        subst (λ (u : Piece). length u.box ≤ length ord) (sym r.2) (omega (arith, v.1, length_box_at ws ord c (tile_at img c).level v.1));
    one = λ ps p w. (
      piece_at ws ord img ps,
      piece_listed ps p w,
      around_lies (box_at ws ord (tile_at img ps).level ps) ws ord ps h p (around_front_take (tile_at img ps).level (path ws ord ps)),
      λ u iu v.
          let r = listed_in (intervals es) (λ j. piece_at ws ord img (at_cell j)) u iu in
          let c = at_cell r.0 in
          let pc = corner_point ws ord h b es lawful_scaled r.0 r.1 in
          let wc = corner_lies ws ord h b es lawful_scaled r.0 r.1 in
          let vc = subst (λ (z : Piece). Lies ws ord z.box ps) r.2 v in
          r.2 ∙ piece_same c ps pc wc p vc (lawful.alike c ps pc wc p vc),
    );
  }
