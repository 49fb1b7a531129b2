-- A lawful image is known by what it names at each point.
use Rattle.std.proofs.Common.{◌≡◌, ℕ, suc, ◌-◌, ◌<◌, ◌≤◌, List, [], length, get_or, set, sym, ap, ◌∙◌, subst, inl, inr, arith}
use Rattle.std.proofs.lemmas.List.{get_or-set_same, set-set, ext_get_or}
use Rattle.boxes.specs.Cuts.{Path, In}
use Rattle.boxes.specs.Points.{Names, Point, lows}
use Rattle.boxes.specs.Space.{span, Lies, box_at}
use Rattle.images.specs.Directory.{Tile, Image, Lawful, position, intervals, tile_at, cell_of, named_in}
use Rattle.images.specs.Cells.{corner}
use Rattle.images.specs.Checks.{block}
use Rattle.images.proofs.Places.{place_stay, position_jump, up_same}
use Rattle.images.proofs.Scales.{in_get_or}
use Rattle.images.proofs.Boxing.{corner_lies, corner_point}
use Rattle.images.proofs.Pieces.{box_same, lawful_scaled, cell_corner}
use Rattle.images.proofs.Moves.{span_pos, corner_is, move_lies, move_point, move_box}
use Rattle.images.proofs.Blocks.{block_le, block_block}

module _ (ws ord : List ℕ) (h : Names ws ord) (b : Path) (short : length b ≤ length ord) where
  -- the lower ends of the boxes are listed
  pub end_listed : (n x y : ℕ) (img : Image) → Lawful ws ord b n x y img → (p : List ℕ) → Point ws p → Lies ws ord b p → (i : ℕ) → i < length ws
      → get_or (lows ws ord b) i 0 < get_or (lows ws ord (box_at ws ord (tile_at img p).level p)) i 0 → In (get_or (lows ws ord (box_at ws ord (tile_at img p).level p)) i 0) (get_or img.ends i [])
  end_listed n x y img lawful p pp w i l a =
      let E = get_or img.ends i [] in
      let d = (lawful.nested p pp w).1 in
      let s = span ws ord (tile_at img p).level i in
      let sp = span_pos ws ord (tile_at img p).level i in
      let e = block s (get_or p i 0) in
      let c = corner_is ws ord h (tile_at img p).level p d pp i l in
      let high = (w i l).1 in
      let le = block_le s (get_or p i 0) in
      let v = e - 1 in
      let sv : suc v ≡ e = omega (arith, a, c) in
      let pr = move_point ws ord h b p pp i e l (omega arith) in
      let wr = move_lies ws ord h b p w pp.long i e l (omega (arith, a, c)) (omega arith) in
      let pv = move_point ws ord h b p pp i v l (omega arith) in
      let wv = move_lies ws ord h b p w pp.long i v l (omega (arith, a, c)) (omega arith) in
      let r = set p i e in
      let q = set p i v in
      let inbox = move_box ws ord h (tile_at img p).level p d pp i e l (block_block s (get_or p i 0) sp) in
      let al = lawful.alike p r pp w pr inbox in
      let gr = get_or-set_same p i e 0 (omega (arith, pp.long)) in
      let gq = get_or-set_same p i v 0 (omega (arith, pp.long)) in
      rw c (elim (position_jump v E) [
        | inl m ↦ subst (λ z. In z E) sv m
        | inr m ↦
            let po : position v E ≡ position (get_or r i 0) E = sym (ap (λ z. position z E) (gr ∙ sym sv) ∙ m) in
            let same : cell_of img q ≡ cell_of img r = ap (cell_of img) (sym (set-set p i e v)) ∙ place_stay img.ends r i v 0 po in
            let cov = lawful.covers r q pr wr pv wv (sym same) in
            let box : box_at ws ord (tile_at img r).level r ≡ box_at ws ord (tile_at img p).level p =
            ap (λ (t : Tile). box_at ws ord t.level r) al ∙ sym (box_same ws ord p r (tile_at img p).level h d pr inbox) in
            let low = subst (λ (z : Path). get_or (lows ws ord z) i 0 ≤ get_or q i 0) box (cov i l).0 in
            absurd (omega arith)
      ])

  pub lawful_same : (n m x y u v : ℕ) (a c : Image) → Lawful ws ord b n x y a → Lawful ws ord b m u v c
      → ((p : List ℕ) → Point ws p → Lies ws ord b p → tile_at a p ≡ tile_at c p) → a ≡ c
  lawful_same n m x y u v a c la lc same =
      let sa = lawful_scaled ws ord h b short n x y a la in
      let sc = lawful_scaled ws ord h b short m u v c lc in
      let ends : a.ends ≡ c.ends = ext_get_or [] a.ends c.ends (la.scales ∙ sym lc.scales)
      (λ i k. let l : i < length ws = omega (arith, la.scales) in
      up_same (get_or (lows ws ord b) i 0) (get_or a.ends i []) (get_or c.ends i []) (sa.up i k) (sc.up i (omega (arith, lc.scales)))
      (over n m x y u v a c la lc same i l) (over m n u v x y c a lc la (λ p pp w. sym (same p pp w)) i l)) in
      let cells : a.cells ≡ c.cells = ext_get_or (record { page = 0; level = 0 }) a.cells c.cells (la.all_cells ∙ ap intervals ends ∙ sym lc.all_cells)
      (λ j k.
      let ja : j < intervals a.ends = omega (arith, la.all_cells) in
      let jc : j < intervals c.ends = omega (arith, la.all_cells, ap intervals ends) in
      let p = corner (lows ws ord b) a.ends j in
      let ea = cell_corner ws ord h b short n x y a la j ja in
      let ec : cell_of c p ≡ j = ap (λ (z : List (List ℕ)). cell_of c (corner (lows ws ord b) z j)) ends ∙ cell_corner ws ord h b short m u v c lc j jc in
      ap (named_in a) (sym ea) ∙ same p (corner_point ws ord h b a.ends sa j ja) (corner_lies ws ord h b a.ends sa j ja) ∙ ap (named_in c) ec) in
      λ i. record { ends = ends i; cells = cells i }
    where
      over : (n m x y u v : ℕ) (a c : Image) → Lawful ws ord b n x y a → Lawful ws ord b m u v c
          → ((p : List ℕ) → Point ws p → Lies ws ord b p → tile_at a p ≡ tile_at c p) → (i : ℕ) → i < length ws → (z : ℕ) → In z (get_or a.ends i []) → In z (get_or c.ends i [])
      over n m x y u v a c la lc same i l z k =
          let g = in_get_or z (get_or a.ends i []) 0 k in
          let r = la.used i g.0 l g.1 in
          let e : z ≡ get_or (lows ws ord (box_at ws ord (tile_at c r.0).level r.0)) i 0 =
          g.2 ∙ sym r.3 ∙ ap (λ (t : Tile). get_or (lows ws ord (box_at ws ord t.level r.0)) i 0) (same r.0 r.1 r.2) in
          subst (λ w. In w (get_or c.ends i [])) (sym e) (end_listed m u v c lc r.0 r.1 r.2 i l (omega (arith, e, g.2, (la.inside i g.0 l g.1).0)))
