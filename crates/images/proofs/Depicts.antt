-- The image built from a tiling is the one image that shows it.
use Rattle.std.proofs.Common.{◌≡◌, ℕ, ◌<◌, ◌≤◌, List, [], length, get_or, sym, ap, ◌∙◌, subst, inl, inr, arith}
use Rattle.std.proofs.lemmas.List.{ext_get_or}
use Rattle.boxes.specs.Cuts.{Path, In}
use Rattle.boxes.specs.Points.{Names, Point, path, lows}
use Rattle.boxes.specs.Space.{Lies}
use Rattle.boxes.proofs.Lows.{length_lows}
use Rattle.boxes.proofs.Spans.{lies_around}
use Rattle.images.specs.Directory.{Image, cell_of, intervals, named_in}
use Rattle.images.specs.Cells.{corner, Up}
use Rattle.images.specs.Tilings.{Piece, Tiling, Depicts, Scaled, scales_of, found, built}
use Rattle.images.specs.Laws.{DepictedStands}
use Rattle.images.proofs.Places.{place_corner, up_same}
use Rattle.images.proofs.Scales.{length_listed, get_or_in, up_rising, rising_up}
use Rattle.images.proofs.Boxing.{corner_lies, corner_point}
use Rattle.images.proofs.Built.{scaled, end_piece, piece_end, corner_b, built_at}

module _ (ws ord : List ℕ) (h : Names ws ord) (b : Path) (short : length b ≤ length ord) (ts : List Piece) (tiling : Tiling ws ord b ts) where
  abbrev low : Path → ℕ → ℕ
  low d i = get_or (lows ws ord d) i 0

  abbrev es : List (List ℕ)
  es = scales_of ws ord b ts

  scales : Scaled ws ord b es
  scales = scaled ws ord h b ts tiling short

  named : (p : List ℕ) (t : Piece) → Point ws p → Lies ws ord b p → In t ts → Lies ws ord t.box p → named_in (built ws ord b ts) (cell_of (built ws ord b ts) p) ≡ record { page = t.page; level = length t.box }
  named p t pp w it v = built_at ws ord h b ts tiling short p pp w t it (lies_around t.box ws ord p h (tiling.levels t it) pp v)

  pub built_depicts : Depicts ws ord b ts (built ws ord b ts)
  built_depicts = record {
    scales = scales.long;
    rising = λ i l. up_rising (low b i) (get_or es i []) (scales.up i (omega (arith, scales.long)));
    sound = λ i x l m. let r = end_piece ws ord h b ts tiling short i l x m in (r.0, (r.1.0, r.1.2, r.1.1));
    complete = λ i t l it. elim (piece_end ws ord h b ts tiling short i l t it) [
      | inl k ↦ inl (let w = (corner_b ws ord h b ts tiling short t it i l).0 in omega arith)
      | inr m ↦ inr m
    ];
    all_cells = length_listed (intervals es) (λ n. found (path ws ord (corner (lows ws ord b) es n)) ts);
    named = named;
  }

  module _ (img : Image) (shown : Depicts ws ord b ts img) where
    ends_up : (i : ℕ) → i < length ws → Up (low b i) (get_or img.ends i [])
    ends_up i l = rising_up (low b i) (get_or img.ends i []) (shown.rising i l) (λ j k. (shown.sound i (get_or (get_or img.ends i []) j 0) l (get_or_in (get_or img.ends i []) j 0 k)).0)

    same_ends : img.ends ≡ es
    same_ends = ext_get_or [] img.ends es (shown.scales ∙ sym scales.long) (λ i k.
        let l : i < length ws = omega (arith, shown.scales) in
        up_same (low b i) (get_or img.ends i []) (get_or es i []) (ends_up i l) (scales.up i (omega (arith, scales.long))) (there i l) (back i l))
      where
        there : (i : ℕ) → i < length ws → (x : ℕ) → In x (get_or img.ends i []) → In x (get_or es i [])
        there i l x m =
            let r = shown.sound i x l m in
            let t = r.1.0 in
            elim (piece_end ws ord h b ts tiling short i l t r.1.1) [
              | inl k ↦ absurd (omega (arith, r.0, r.1.2))
              | inr n ↦ subst (λ z. In z (get_or es i [])) (sym r.1.2) n
            ]

        back : (i : ℕ) → i < length ws → (x : ℕ) → In x (get_or es i []) → In x (get_or img.ends i [])
        back i l x m =
            let r = end_piece ws ord h b ts tiling short i l x m in
            let t = r.1.0 in
            elim (shown.complete i t l r.1.2) [
              | inl k ↦ absurd (omega (arith, r.0, r.1.1))
              | inr n ↦ subst (λ z. In z (get_or img.ends i [])) (sym r.1.1) n
            ]

    same_cells : img.cells ≡ (built ws ord b ts).cells
    same_cells =
        let many : length (built ws ord b ts).cells ≡ intervals es = built_depicts.all_cells in
        ext_get_or (record { page = 0; level = 0 }) img.cells (built ws ord b ts).cells (shown.all_cells ∙ ap intervals same_ends ∙ sym many) (λ j k.
        let n : j < intervals es = omega (arith, shown.all_cells, ap intervals same_ends) in
        let p = corner (lows ws ord b) es j in
        let pp = corner_point ws ord h b es scales j n in
        let w = corner_lies ws ord h b es scales j n in
        let r = tiling.one p pp w in
        let here : cell_of (built ws ord b ts) p ≡ j = place_corner (lows ws ord b) es j (length_lows ws ord b ∙ sym scales.long) scales.up n in
        let there : cell_of img p ≡ j = ap (λ (z : List (List ℕ)). cell_of (record { ends = z; cells = img.cells }) p) same_ends ∙ here in
        ap (named_in img) (sym there) ∙ shown.named p r.0 pp w r.1 r.2 ∙ sym (named p r.0 pp w r.1 r.2) ∙ ap (named_in (built ws ord b ts)) here)

    pub depicts_built : img ≡ built ws ord b ts
    depicts_built = λ i. record { ends = same_ends i; cells = same_cells i }

pub depicted_stands : DepictedStands
depicted_stands ws ord h b short ts tiling = (built_depicts ws ord h b short ts tiling, depicts_built ws ord h b short ts tiling)
