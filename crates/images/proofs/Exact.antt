-- A lawful image passes the checks.
use Rattle.std.proofs.Common.{◌≡◌, ℕ, suc, ◌+◌, ◌-◌, ◌%◌, ◌<◌, ◌≤◌, List, [], length, get_or, set, sym, ap, ◌∙◌, subst, inl, inr, arith}
use Rattle.std.proofs.lemmas.List.{get_or-set_same, set-set, get_or_default, get_or_past}
use Rattle.std.proofs.lemmas.Bool.{cases_lt}
use Rattle.boxes.specs.Cuts.{Path}
use Rattle.boxes.specs.Points.{Names, Point, lows}
use Rattle.boxes.specs.Space.{span, Lies, box_at}
use Rattle.boxes.proofs.Lows.{length_lows}
use Rattle.images.specs.Directory.{Tile, Image, Lawful, position, intervals, tile_at, cell_of, named_in}
use Rattle.images.specs.Cells.{digit, stride, corner, Up}
use Rattle.images.specs.Checks.{block, cell_low, cell_high, cell_span, Checked}
use Rattle.images.proofs.Places.{position_start, position_interval, start_above, start_next, digit_le, corner_at, digit_place, place_stay, place_step}
use Rattle.images.proofs.Boxing.{corner_lies, corner_point}
use Rattle.images.proofs.Pieces.{length_box_at, lawful_scaled, cell_corner, cell_below}
use Rattle.images.proofs.Moves.{span_pos, corner_is, move_lies, move_point, move_box}
use Rattle.images.proofs.Blocks.{block_le, block_top, block_in, block_block}

module _ (ws ord : List ℕ) (h : Names ws ord) (b : Path) (short : length b ≤ length ord) (n most_inner most_cells : ℕ) (img : Image) (lawful : Lawful ws ord b n most_inner most_cells img) where
  abbrev es : List (List ℕ)
  es = img.ends

  abbrev low : ℕ → ℕ
  low i = get_or (lows ws ord b) i 0

  abbrev high : ℕ → ℕ
  high i = get_or (lows ws ord b) i 0 + span ws ord (length b) i

  abbrev level : List ℕ → ℕ
  level r = (tile_at img r).level

  abbrev at_cell : ℕ → List ℕ
  at_cell m = corner (lows ws ord b) es m

  point : (m : ℕ) → m < intervals es → Point ws (at_cell m)
  point m k = corner_point ws ord h b es (lawful_scaled ws ord h b short n most_inner most_cells img lawful) m k

  lies : (m : ℕ) → m < intervals es → Lies ws ord b (at_cell m)
  lies m k = corner_lies ws ord h b es (lawful_scaled ws ord h b short n most_inner most_cells img lawful) m k

  number : (m : ℕ) → m < intervals es → cell_of img (at_cell m) ≡ m
  number m k = cell_corner ws ord h b short n most_inner most_cells img lawful m k

  up : (i : ℕ) → i < length ws → Up (low i) (get_or es i [])
  up i k = (lawful_scaled ws ord h b short n most_inner most_cells img lawful).up i (omega (arith, lawful.scales))

  key : (m i : ℕ) → m < intervals es → i < length ws → get_or (at_cell m) i 0 ≡ cell_low ws ord b img m i
  key m i k l = corner_at (lows ws ord b) es m i (length_lows ws ord b ∙ sym lawful.scales) (omega (arith, lawful.scales))

  digit_most : (m i : ℕ) → m < intervals es → i < length ws → digit es i m ≤ length (get_or es i [])
  digit_most m i k l = digit_le es m i k (omega (arith, lawful.scales))

  key_place : (m i : ℕ) → m < intervals es → i < length ws → position (get_or (at_cell m) i 0) (get_or es i []) ≡ digit es i m
  key_place m i k l = ap (λ x. position x (get_or es i [])) (key m i k l) ∙ position_start (low i) (get_or es i []) (digit es i m) (up i l) (digit_most m i k l)

  -- a cell has a greatest number in each key
  wide : (m i : ℕ) → m < intervals es → i < length ws → (cell_low ws ord b img m i < cell_high ws ord b img m i) × (cell_high ws ord b img m i ≤ high i)
  wide m i k l = elim (cases_lt (digit es i m) (length (get_or es i []))) [
    | inl j ↦
        let e = get_or_default (get_or es i []) (digit es i m) 0 (high i) j in
        (omega (arith, start_next (low i) (get_or es i []) (digit es i m) (up i l) j), omega (arith, (lawful.inside i (digit es i m) l j).1))
    | inr j ↦ let e = get_or_past (get_or es i []) (digit es i m) (high i) j in (omega (arith, key m i k l, (lies m k i l).1), omega arith)
  ]

  -- a point of cell m, with another value of its interval in key i
  other : (m i v : ℕ) → m < intervals es → i < length ws → cell_low ws ord b img m i ≤ v → v < cell_high ws ord b img m i → cell_of img (set (at_cell m) i v) ≡ cell_of img (at_cell m)
  other m i v k l a z = place_stay es (at_cell m) i v 0 (position_interval (low i) v (high i) (get_or es i []) (digit es i m) (up i l) (digit_most m i k l) a z ∙ sym (key_place m i k l))

  low_above : (m i : ℕ) → m < intervals es → i < length ws → low i ≤ cell_low ws ord b img m i
  low_above m i k l = start_above (low i) (get_or es i []) (digit es i m) (up i l) (digit_most m i k l)

  covered : (m i : ℕ) → m < intervals es → i < length ws → cell_high ws ord b img m i ≤ block (cell_span ws ord img m i) (cell_low ws ord b img m i) + cell_span ws ord img m i
  covered m i k l =
      let c = at_cell m in
      let w = wide m i k l in
      let v = cell_high ws ord b img m i - 1 in
      let a : cell_low ws ord b img m i ≤ v = omega (arith, w.0) in
      let z : v < cell_high ws ord b img m i = omega (arith, w.0) in
      let la = low_above m i k l in
      let q = set c i v in
      let pq = move_point ws ord h b c (point m k) i v l (omega (arith, w.1)) in
      let wq = move_lies ws ord h b c (lies m k) (point m k).long i v l (omega arith) (omega (arith, w.1)) in
      let d = (lawful.nested c (point m k) (lies m k)).1 in
      let cov = (lawful.covers c q (point m k) (lies m k) pq wq (sym (other m i v k l a z)) i l).1 in
      let g = get_or-set_same c i v 0 (omega (arith, (point m k).long)) in
      let u₁ : v < get_or (lows ws ord (box_at ws ord (level c) c)) i 0 + span ws ord (level c) i =
      subst (λ x. v < get_or (lows ws ord (box_at ws ord (level c) c)) i 0 + span ws ord x i) (length_box_at ws ord c (level c) d) (omega (arith, cov, g)) in
      let u₂ : v < block (span ws ord (level c) i) (cell_low ws ord b img m i) + span ws ord (level c) i =
      subst (λ x. v < x + span ws ord (level c) i) (corner_is ws ord h (level c) c d (point m k) i l ∙ ap (block (span ws ord (level c) i)) (key m i k l)) u₁ in
      let u₃ = subst (λ x. v < block (span ws ord (named_in img x).level i) (cell_low ws ord b img m i) + span ws ord (named_in img x).level i) (number m k) u₂ in
      omega arith

  -- the next cell up
  next : (m i : ℕ) → m < intervals es → i < length ws → digit es i m < length (get_or es i []) → cell_of img (set (at_cell m) i (cell_high ws ord b img m i)) ≡ m + stride es i
  next m i k l j =
      let E = get_or es i [] in
      let e = get_or_default E (digit es i m) (high i) 0 j in
      let po = ap (λ x. position x E) e ∙ position_start (low i) E (suc (digit es i m)) (up i l) j ∙ ap suc (sym (key_place m i k l)) in
      place_step es (at_cell m) i (cell_high ws ord b img m i) ((point m k).long ∙ sym lawful.scales) (omega (arith, lawful.scales)) po ∙ ap (λ x. x + stride es i) (number m k)

  inside_b : (m i : ℕ) → m < intervals es → i < length ws → digit es i m < length (get_or es i []) → cell_high ws ord b img m i < high i
  inside_b m i k l j = omega (arith, get_or_default (get_or es i []) (digit es i m) (high i) 0 j, (lawful.inside i (digit es i m) l j).1)

  upper : (m i : ℕ) → m < intervals es → i < length ws → digit es i m < length (get_or es i [])
      → cell_high ws ord b img m i < block (cell_span ws ord img m i) (cell_low ws ord b img m i) + cell_span ws ord img m i → named_in img (m + stride es i) ≡ named_in img m
  upper m i k l j u =
      let c = at_cell m in
      let e = cell_high ws ord b img m i in
      let w = (wide m i k l).0 in
      let pd = move_point ws ord h b c (point m k) i e l (inside_b m i k l j) in
      let d = (lawful.nested c (point m k) (lies m k)).1 in
      let s = span ws ord (level c) i in
      let u' : e < block s (get_or c i 0) + s = subst (λ x. e < block s x + s) (sym (key m i k l))
      (subst (λ x. e < block (span ws ord (named_in img x).level i) (cell_low ws ord b img m i) + span ws ord (named_in img x).level i) (sym (number m k)) u) in
      let be = block_in s (get_or c i 0) e (span_pos ws ord (level c) i) (omega (arith, block_le s (get_or c i 0), key m i k l)) u' in
      ap (named_in img) (sym (next m i k l j)) ∙ lawful.alike c (set c i e) (point m k) (lies m k) pd (move_box ws ord h (level c) c d (point m k) i e l be) ∙ ap (named_in img) (number m k)

  lower : (m i : ℕ) → m < intervals es → i < length ws → digit es i m < length (get_or es i [])
      → 0 < cell_high ws ord b img m i % cell_span ws ord img (m + stride es i) i → named_in img (m + stride es i) ≡ named_in img m
  lower m i k l j u =
      let c = at_cell m in
      let e = cell_high ws ord b img m i in
      let w = (wide m i k l).0 in
      let la = low_above m i k l in
      let r = set c i e in
      let pr = move_point ws ord h b c (point m k) i e l (inside_b m i k l j) in
      let wr = move_lies ws ord h b c (lies m k) (point m k).long i e l (omega arith) (inside_b m i k l j) in
      let d = (lawful.nested r pr wr).1 in
      let s = span ws ord (level r) i in
      let sp = span_pos ws ord (level r) i in
      let u' : 0 < e % s = subst (λ x. 0 < e % span ws ord (named_in img x).level i) (sym (next m i k l j)) u in
      let v = e - 1 in
      let g = get_or-set_same c i e 0 (omega (arith, (point m k).long)) in
      let bv : block s v ≡ block s (get_or r i 0) = block_in s e v sp (omega arith) (omega (arith, block_top s e sp)) ∙ ap (block s) (sym g) in
      let back : set r i v ≡ set c i v = set-set c i e v in
      let pv = move_point ws ord h b r pr i v l (omega (arith, inside_b m i k l j)) in
      let al = lawful.alike r (set r i v) pr wr pv (move_box ws ord h (level r) r d pr i v l bv) in
      ap (named_in img) (sym (next m i k l j)) ∙ sym al ∙ ap (tile_at img) back ∙ ap (named_in img) (other m i v k l (omega arith) (omega arith) ∙ number m k)

  pub lawful_checked : Checked ws ord b n most_inner most_cells img
  lawful_checked = record {
    scales = lawful.scales;
    few_inner = lawful.few_inner;
    few_cells = lawful.few_cells;
    all_cells = lawful.all_cells;
    rising = lawful.rising;
    inside = lawful.inside;
    used = λ i j l k.
        let E = get_or es i [] in
        let e = get_or E j 0 in
        let r = lawful.used i j l k in
        let p = r.0 in
        let s = span ws ord (level p) i in
        let sp = span_pos ws ord (level p) i in
        let d = (lawful.nested p r.1 r.2).1 in
        let f : block s (get_or p i 0) ≡ e = sym (corner_is ws ord h (level p) p d r.1 i l) ∙ r.3 in
        let bb : block s e ≡ block s (get_or p i 0) = ap (block s) (sym f) ∙ block_block s (get_or p i 0) sp in
        let q = set p i e in
        let pq = move_point ws ord h b p r.1 i e l (lawful.inside i j l k).1 in
        let al = lawful.alike p q r.1 r.2 pq (move_box ws ord h (level p) p d r.1 i e l bb) in
        let z : e % s ≡ 0 = omega (arith, block_le s e) in
        let g = get_or-set_same p i e 0 (omega (arith, r.1.long)) in (
          cell_of img q,
          cell_below ws ord h b short n most_inner most_cells img lawful q pq,
          digit_place es q i (pq.long ∙ sym lawful.scales) (omega (arith, lawful.scales)) ∙ ap (λ x. position x E) g ∙ position_start (low i) E (suc j) (up i l) k,
          subst (λ (t : Tile). e % span ws ord t.level i ≡ 0) (sym al) z,
        );
    pages = λ m k. subst (λ x. (8 ≤ (named_in img x).page) × ((named_in img x).page < n)) (number m k) (lawful.pages (at_cell m) (point m k) (lies m k));
    nested = λ m k. subst (λ x. (length b ≤ (named_in img x).level) × ((named_in img x).level ≤ length ord)) (number m k) (lawful.nested (at_cell m) (point m k) (lies m k));
    covers = covered;
    alike_up = upper;
    alike_down = lower;
  }
