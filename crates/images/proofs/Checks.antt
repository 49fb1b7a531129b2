-- Neighbours alike suffices: what the loops check is what lawful says.
use Rattle.std.proofs.Common.{◌≡◌, ℕ, zero, suc, ◌+◌, ◌-◌, ◌%◌, ◌<◌, ◌≤◌, List, [], length, get_or, set, sym, refl, ap, ◌∙◌, subst, inl, inr, arith}
use Rattle.std.proofs.lemmas.List.{get_or-set_same, get_or-set_other, length-set, set-set, set-get_or, get_or_default, ext_get_or}
use Rattle.std.proofs.lemmas.Bool.{cases_lt, cases_eq}
use Rattle.boxes.specs.Cuts.{Path}
use Rattle.boxes.specs.Points.{Names, Point, lows}
use Rattle.boxes.specs.Space.{span, Lies, box_at}
use Rattle.boxes.proofs.Lows.{length_lows}
use Rattle.boxes.proofs.Laws.{boxes_stand}
use Rattle.images.specs.Directory.{Tile, Image, Lawful, position, intervals, tile_at, cell_of, named_in}
use Rattle.images.specs.Cells.{start, digit, stride, corner, Up}
use Rattle.images.specs.Tilings.{Scaled}
use Rattle.images.specs.Checks.{block, cell_high, Checked}
use Rattle.images.proofs.Places.{position_le, position_start, start_position, position_next, position_stop, position_reach, position_miss, start_above, start_next, place_below, place_same, place_corner, corner_at, digit_place, place_stay, place_step}
use Rattle.images.proofs.Scales.{in_get_or, rising_up}
use Rattle.images.proofs.Boxing.{corner_lies, corner_point}
use Rattle.images.proofs.Pieces.{length_box_at}
use Rattle.images.proofs.Moves.{span_pos, corner_is}
use Rattle.images.proofs.Blocks.{block_le, block_top, block_in, block_next}

module _ (ws ord : List ℕ) (h : Names ws ord) (b : Path) (n most_inner most_cells : ℕ) (img : Image) (ch : Checked ws ord b n most_inner most_cells img) where
  abbrev es : List (List ℕ)
  es = img.ends

  abbrev low : ℕ → ℕ
  low i = get_or (lows ws ord b) i 0

  abbrev high : ℕ → ℕ
  high i = get_or (lows ws ord b) i 0 + span ws ord (length b) i

  abbrev level : List ℕ → ℕ
  level r = (tile_at img r).level

  up : (i : ℕ) → i < length ws → Up (low i) (get_or es i [])
  up i k = rising_up (low i) (get_or es i []) (ch.rising i k) (λ j m. (ch.inside i j k m).0)

  below : (r : List ℕ) → length r ≡ length ws → cell_of img r < intervals es
  below r l = place_below es r (l ∙ sym ch.scales)

  digit_is : (r : List ℕ) → length r ≡ length ws → (i : ℕ) → i < length ws → digit es i (cell_of img r) ≡ position (get_or r i 0) (get_or es i [])
  digit_is r l i k = digit_place es r i (l ∙ sym ch.scales) (omega (arith, ch.scales))

  -- the cell's box ends no earlier than the cell, at a point of the cell
  covering : (r : List ℕ) → length r ≡ length ws → (i : ℕ) → i < length ws
      → get_or (get_or es i []) (position (get_or r i 0) (get_or es i [])) (high i)
      ≤ block (span ws ord (level r) i) (start (low i) (get_or es i []) (position (get_or r i 0) (get_or es i []))) + span ws ord (level r) i
  covering r l i k =
      subst (λ d. get_or (get_or es i []) d (high i) ≤ block (span ws ord (level r) i) (start (low i) (get_or es i []) d) + span ws ord (level r) i)
      (digit_is r l i k) (ch.covers (cell_of img r) i (below r l) k)

  -- a number is in one block with the lower end of its interval
  in_cell : (r : List ℕ) → length r ≡ length ws → (i : ℕ) → i < length ws → low i ≤ get_or r i 0 → get_or r i 0 < high i
      → block (span ws ord (level r) i) (get_or r i 0) ≡ block (span ws ord (level r) i) (start (low i) (get_or es i []) (position (get_or r i 0) (get_or es i [])))
  in_cell r l i k a z =
      let s = span ws ord (level r) i in
      let c = start (low i) (get_or es i []) (position (get_or r i 0) (get_or es i [])) in
      let f = start_position (low i) (get_or r i 0) (get_or es i []) (up i k) a in
      let g = position_stop (low i) (get_or r i 0) (high i) (get_or es i []) (up i k) z in
      block_in s c (get_or r i 0) (span_pos ws ord (level r) i) (omega (arith, block_le s c)) (omega (arith, covering r l i k))

  -- no step
  stay : (r : List ℕ) → length r ≡ length ws → (i : ℕ) → i < length ws → (v : ℕ) → position v (get_or es i []) ≡ position (get_or r i 0) (get_or es i []) → tile_at img (set r i v) ≡ tile_at img r
  stay r l i k v po = ap (named_in img) (place_stay es r i v 0 po)

  -- one step up in key i, to the next lower end
  step_up : (r : List ℕ) → length r ≡ length ws → (i : ℕ) → i < length ws → low i ≤ get_or r i 0 → get_or r i 0 < high i → position (get_or r i 0) (get_or es i []) < length (get_or es i [])
      → get_or (get_or es i []) (position (get_or r i 0) (get_or es i [])) 0 < block (span ws ord (level r) i) (get_or r i 0) + span ws ord (level r) i
      → tile_at img (set r i (get_or (get_or es i []) (position (get_or r i 0) (get_or es i [])) 0)) ≡ tile_at img r
  step_up r l i k a z j u =
      let E = get_or es i [] in
      let d = position (get_or r i 0) E in
      let s = span ws ord (level r) i in
      let m = cell_of img r in
      let q = digit_is r l i k in
      let st = place_step es r i (get_or E d 0) (l ∙ sym ch.scales) (omega (arith, ch.scales)) (position_start (low i) E (suc d) (up i k) j) in
      let hi : get_or E d (high i) < block s (start (low i) E d) + s = omega (arith, get_or_default E d 0 (high i) j, in_cell r l i k a z) in
      ap (named_in img) st ∙ ch.alike_up m i (below r l) k (omega (arith, q)) (subst (λ t. get_or E t (high i) < block s (start (low i) E t) + s) (sym q) hi)

  -- one step down in key i, to the lower end of the interval before
  step_down : (r : List ℕ) → length r ≡ length ws → (i : ℕ) → i < length ws → (d : ℕ) → position (get_or r i 0) (get_or es i []) ≡ suc d → d < length (get_or es i [])
      → 0 < get_or (get_or es i []) d 0 % span ws ord (level r) i
      → tile_at img r ≡ tile_at img (set r i (start (low i) (get_or es i []) d))
  step_down r l i k d po j u =
      let E = get_or es i [] in
      let c = start (low i) E d in
      let r' = set r i c in
      let w : i < length r = omega arith in
      let l' : length r' ≡ length ws = length-set r i c ∙ l in
      let g = get_or-set_same r i c 0 w in
      let pc = position_start (low i) E d (up i k) (omega arith) in
      let at_c : position (get_or r' i 0) E ≡ d = ap (λ x. position x E) g ∙ pc in
      let back : set r' i (get_or r i 0) ≡ r = set-set r i c (get_or r i 0) ∙ set-get_or r i 0 in
      let st = place_step es r' i (get_or r i 0) (l' ∙ sym ch.scales) (omega (arith, ch.scales)) (po ∙ ap suc (sym at_c)) in
      let m = cell_of img r' in
      let q : digit es i m ≡ d = digit_is r' l' i k ∙ at_c in
      let over : cell_of img r ≡ m + stride es i = ap (cell_of img) (sym back) ∙ st in
      let f : get_or E d 0 ≡ cell_high ws ord b img m i = get_or_default E d 0 (high i) j ∙ ap (λ t. get_or E t (high i)) (sym q) in
      let u₁ = subst (λ t. 0 < t % span ws ord (named_in img (cell_of img r)).level i) f u in
      let u₂ = subst (λ t. 0 < cell_high ws ord b img m i % span ws ord (named_in img t).level i) over u₁ in
      ap (named_in img) over ∙ ch.alike_down m i (below r' l') k (omega (arith, q)) u₂

  -- upwards in key i
  walk_up : (d : ℕ) (r : List ℕ) → length r ≡ length ws → (i : ℕ) → i < length ws → low i ≤ get_or r i 0 → get_or r i 0 < high i
      → (v : ℕ) → block (span ws ord (level r) i) v ≡ block (span ws ord (level r) i) (get_or r i 0) → position v (get_or es i []) ≡ position (get_or r i 0) (get_or es i []) + d
      → tile_at img (set r i v) ≡ tile_at img r
  walk_up zero r l i k a z v bl po = stay r l i k v (omega arith)
  walk_up (suc d) r l i k a z v bl po =
      let E = get_or es i [] in
      let j = position (get_or r i 0) E in
      let s = span ws ord (level r) i in
      let sp = span_pos ws ord (level r) i in
      let w : i < length r = omega arith in
      let jl : j < length E = omega (arith, position_le v E) in
      let e = get_or E j 0 in
      let r' = set r i e in
      let over = position_next (low i) (get_or r i 0) E (up i k) jl in
      let reach = position_reach (low i) v E j (up i k) (omega arith) in
      let top = block_top s v sp in
      let t = step_up r l i k a z jl (omega arith) in
      let be = block_in s (get_or r i 0) e sp (omega (arith, block_le s (get_or r i 0))) (omega arith) in
      let g = get_or-set_same r i e 0 w in
      let bl' : block (span ws ord (level r') i) v ≡ block (span ws ord (level r') i) (get_or r' i 0) =
      subst (λ x. block (span ws ord (level r') i) v ≡ block (span ws ord (level r') i) x) (sym g)
      (subst (λ (y : Tile). block (span ws ord y.level i) v ≡ block (span ws ord y.level i) e) (sym t) (bl ∙ sym be)) in
      let po' : position v E ≡ position (get_or r' i 0) E + d = omega (arith, ap (λ x. position x E) g, position_start (low i) E (suc j) (up i k) jl) in
      let ih = walk_up d r' (length-set r i e ∙ l) i k (omega (arith, g)) (omega (arith, g, (ch.inside i j k jl).1)) v bl' po' in
      ap (tile_at img) (sym (set-set r i e v)) ∙ ih ∙ t

  walk_down : (d : ℕ) (r : List ℕ) → length r ≡ length ws → (i : ℕ) → i < length ws → low i ≤ get_or r i 0 → get_or r i 0 < high i
      → (v : ℕ) → block (span ws ord (level r) i) v ≡ block (span ws ord (level r) i) (get_or r i 0) → position (get_or r i 0) (get_or es i []) ≡ position v (get_or es i []) + d
      → tile_at img (set r i v) ≡ tile_at img r
  walk_down zero r l i k a z v bl po = stay r l i k v (omega arith)
  walk_down (suc d) r l i k a z v bl po =
      let E = get_or es i [] in
      let j = position v E + d in
      let s = span ws ord (level r) i in
      let sp = span_pos ws ord (level r) i in
      let w : i < length r = omega arith in
      let pj : position (get_or r i 0) E ≡ suc j = omega arith in
      let jl : j < length E = omega (arith, position_le (get_or r i 0) E) in
      let e = get_or E j 0 in
      let c = start (low i) E j in
      let r' = set r i c in
      let l' : length r' ≡ length ws = length-set r i c ∙ l in
      let g = get_or-set_same r i c 0 w in
      let under = position_miss (low i) v E j (up i k) jl (omega arith) in
      let be : block s (get_or r i 0) ≡ block s e = in_cell r l i k a z ∙ ap (λ t. block s (start (low i) E t)) pj in
      let off : 0 < e % s = omega (arith, block_le s v) in
      let t = step_down r l i k j pj jl off in
      let pc = position_start (low i) E j (up i k) (omega arith) in
      let at_c : position (get_or r' i 0) E ≡ j = ap (λ x. position x E) g ∙ pc in
      let cov₀ = subst (λ x. get_or E x (high i) ≤ block (span ws ord (level r') i) (start (low i) E x) + span ws ord (level r') i) at_c (covering r' l' i k) in
      let cov = subst (λ (y : Tile). get_or E j (high i) ≤ block (span ws ord y.level i) c + span ws ord y.level i) (sym t) cov₀ in
      let ce : c < e = start_next (low i) E j (up i k) jl in
      let not_top : e ≡ block s c + s → ⊥ = λ x. omega (arith, ap (λ y. y % s) x, block_next s c sp) in
      let bc = block_in s c e sp (omega (arith, block_le s c)) (omega (arith, get_or_default E j 0 (high i) jl)) in
      let bl' : block (span ws ord (level r') i) v ≡ block (span ws ord (level r') i) (get_or r' i 0) =
      subst (λ x. block (span ws ord (level r') i) v ≡ block (span ws ord (level r') i) x) (sym g)
      (subst (λ (y : Tile). block (span ws ord y.level i) v ≡ block (span ws ord y.level i) c) t (bl ∙ be ∙ bc)) in
      let ih = walk_down d r' l' i k (omega (arith, g, start_above (low i) E j (up i k) (omega arith))) (omega (arith, g, (ch.inside i j k jl).1)) v bl' (omega arith) in
      ap (tile_at img) (sym (set-set r i c v)) ∙ ih ∙ sym t

  -- to another value in one block
  walk : (r : List ℕ) → length r ≡ length ws → (i : ℕ) → i < length ws → low i ≤ get_or r i 0 → get_or r i 0 < high i
      → (v : ℕ) → block (span ws ord (level r) i) v ≡ block (span ws ord (level r) i) (get_or r i 0) → tile_at img (set r i v) ≡ tile_at img r
  walk r l i k a z v bl =
      let E = get_or es i [] in
      elim (cases_lt (position v E) (position (get_or r i 0) E)) [
        | inl m ↦ walk_down (position (get_or r i 0) E - position v E) r l i k a z v bl (omega arith)
        | inr m ↦ walk_up (position v E - position (get_or r i 0) E) r l i k a z v bl (omega arith)
      ]

  -- key by key, from the last one down
  walk_keys : (q : List ℕ) → length q ≡ length ws → ((i : ℕ) → i < length ws → (low i ≤ get_or q i 0) × (get_or q i 0 < high i))
      → (m : ℕ) (r : List ℕ) → m ≤ length ws → length r ≡ length ws → ((i : ℕ) → i < length ws → m ≤ i → get_or r i 0 ≡ get_or q i 0)
      → ((i : ℕ) → i < length ws → (low i ≤ get_or r i 0) × (get_or r i 0 < high i) × (block (span ws ord (level r) i) (get_or q i 0) ≡ block (span ws ord (level r) i) (get_or r i 0)))
      → tile_at img q ≡ tile_at img r
  walk_keys q lq iq zero r ml l same ok = ap (tile_at img) (ext_get_or 0 q r (lq ∙ sym l) (λ i k. sym (same i (omega arith) (omega arith))))
  walk_keys q lq iq (suc m) r ml l same ok =
      let v = get_or q m 0 in
      let r' = set r m v in
      let w : m < length r = omega arith in
      let g = get_or-set_same r m v 0 w in
      let o = ok m ml in
      let t = walk r l m ml o.0 o.1 v o.2 in
      let same' : (i : ℕ) → i < length ws → m ≤ i → get_or r' i 0 ≡ get_or q i 0 = λ i k j. elim (cases_eq i m) [
        | inl e ↦ rw (e, g)
        | inr ne ↦ get_or-set_other r m i v 0 ne ∙ same i k (omega arith)
      ] in
      let ok' : (i : ℕ) → i < length ws → (low i ≤ get_or r' i 0) × (get_or r' i 0 < high i) × (block (span ws ord (level r') i) (get_or q i 0) ≡ block (span ws ord (level r') i) (get_or r' i 0)) =
      λ i k. elim (cases_eq i m) [
        | inl e ↦ subst (λ x. (low i ≤ x) × (x < high i) × (block (span ws ord (level r') i) (get_or q i 0) ≡ block (span ws ord (level r') i) x)) (ap (λ j. get_or q j 0) e ∙ sym g ∙ ap (λ j. get_or r' j 0) (sym e)) ((iq i k).0, (iq i k).1, refl)
        | inr ne ↦ subst (λ x. (low i ≤ x) × (x < high i) × (block (span ws ord (level r') i) (get_or q i 0) ≡ block (span ws ord (level r') i) x)) (sym (get_or-set_other r m i v 0 ne))
            (subst (λ (y : Tile). (low i ≤ get_or r i 0) × (get_or r i 0 < high i) × (block (span ws ord y.level i) (get_or q i 0) ≡ block (span ws ord y.level i) (get_or r i 0))) (sym t) (ok i k))
      ] in
      walk_keys q lq iq m r' (omega arith) (length-set r m v ∙ l) same' ok' ∙ t

  -- points of one box are alike
  together : (p q : List ℕ) → Point ws p → Lies ws ord b p → Point ws q → Lies ws ord b q → Lies ws ord (box_at ws ord (level p) p) q → tile_at img q ≡ tile_at img p
  together p q pp w pq wq v =
      walk_keys q pq.long (λ i k. wq i k) (length ws) p (omega arith) pp.long (λ i k m. absurd (omega arith))
      (λ i k.
      let s = span ws ord (level p) i in
      let d = (ch.nested (cell_of img p) (below p pp.long)).1 in
      let e = corner_is ws ord h (level p) p d pp i k in
      let n' = length_box_at ws ord p (level p) d in
      let v₁ = (v i k).1 in
      let v₂ : get_or q i 0 < block s (get_or p i 0) + s = subst (λ x. get_or q i 0 < x + s) e (subst (λ x. get_or q i 0 < get_or (lows ws ord (box_at ws ord (level p) p)) i 0 + span ws ord x i) n' v₁) in
      ((w i k).0, (w i k).1, block_in s (get_or p i 0) (get_or q i 0) (span_pos ws ord (level p) i) (omega (arith, e, (v i k).0)) v₂))

  scaled : Scaled ws ord b es
  scaled = record {
    long = ch.scales;
    up = λ i l. up i (omega (arith, ch.scales));
    within = λ i l x m. let r = in_get_or x (get_or es i []) 0 m in omega (arith, r.2, (ch.inside i r.0 l r.1).1);
  }

  pub checked_lawful : length b ≤ length ord → Lawful ws ord b n most_inner most_cells img
  checked_lawful short = record {
    scales = ch.scales;
    few_inner = ch.few_inner;
    few_cells = ch.few_cells;
    all_cells = ch.all_cells;
    rising = ch.rising;
    inside = ch.inside;
    used = λ i j k m.
        let r = ch.used i j k m in
        let c = corner (lows ws ord b) es r.0 in
        let E = get_or es i [] in
        let pc = corner_point ws ord h b es scaled r.0 r.1 in
        let ll : length (lows ws ord b) ≡ length es = length_lows ws ord b ∙ sym ch.scales in
        let e = place_corner (lows ws ord b) es r.0 ll scaled.up r.1 in
        let f : get_or c i 0 ≡ get_or E j 0 = corner_at (lows ws ord b) es r.0 i ll (omega (arith, ch.scales)) ∙ ap (start (low i) E) r.2 in
        let d = (ch.nested (cell_of img c) (below c pc.long)).1 in
        let z : get_or E j 0 % span ws ord (level c) i ≡ 0 = subst (λ x. get_or E j 0 % span ws ord (named_in img x).level i ≡ 0) (sym e) r.3 in
        (c, pc, corner_lies ws ord h b es scaled r.0 r.1, corner_is ws ord h (level c) c d pc i k ∙ ap (block (span ws ord (level c) i)) f ∙ (omega arith));
    pages = λ p pp w. ch.pages (cell_of img p) (below p pp.long);
    nested = λ p pp w. ch.nested (cell_of img p) (below p pp.long);
    covers = λ p q pp w pq v e i k.
        let s = span ws ord (level p) i in
        let d = (ch.nested (cell_of img p) (below p pp.long)).1 in
        let c = corner_is ws ord h (level p) p d pp i k in
        let n' = length_box_at ws ord p (level p) d in
        let z = in_cell p pp.long i k (w i k).0 (w i k).1 in
        let E = get_or es i [] in
        let y : block s (get_or q i 0) ≡ block s (start (low i) E (position (get_or q i 0) E)) =
        subst (λ x. block (span ws ord (named_in img x).level i) (get_or q i 0) ≡ block (span ws ord (named_in img x).level i) (start (low i) E (position (get_or q i 0) E))) (sym e)
        (in_cell q pq.long i k (v i k).0 (v i k).1) in
        let po = place_same es p q (pp.long ∙ sym ch.scales) (pq.long ∙ sym ch.scales) e i (omega (arith, ch.scales)) in
        let one : block s (get_or q i 0) ≡ block s (get_or p i 0) = y ∙ ap (λ t. block s (start (low i) E t)) (sym po) ∙ sym z in
        let top = block_top s (get_or q i 0) (span_pos ws ord (level p) i) in (
          omega (arith, c, block_le s (get_or q i 0)),
          subst (λ x. get_or q i 0 < get_or (lows ws ord (box_at ws ord (level p) p)) i 0 + span ws ord x i) (sym n') (omega (arith, c)),
        );
    alike = λ p q pp w pq v.
        let d = ch.nested (cell_of img p) (below p pp.long) in
        let n' = length_box_at ws ord p (level p) d.1 in
        together p q pp w pq ((boxes_stand ws ord h).nested b (box_at ws ord (level p) p) p (omega (arith, d.0)) (omega (arith, d.1)) pp w ((boxes_stand ws ord h).covers (level p) p d.1 pp) q pq v) v;
  }
