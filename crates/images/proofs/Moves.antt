-- Points that differ in one key.
use Rattle.std.proofs.Common.{◌≡◌, ℕ, ◌+◌, ◌-◌, ◌<◌, ◌≤◌, List, length, get_or, take, set, sym, ◌∙◌, subst, inl, inr, arith, pow_pos}
use Rattle.std.proofs.lemmas.List.{get_or-set_same, get_or-set_other, length-set}
use Rattle.std.proofs.lemmas.Bool.{cases_eq}
use Rattle.boxes.specs.Cuts.{Path}
use Rattle.boxes.specs.Order.{named}
use Rattle.boxes.specs.Points.{Names, Point, lows}
use Rattle.boxes.specs.Space.{span, Lies, box_at}
use Rattle.boxes.proofs.Spans.{span_is}
use Rattle.boxes.proofs.Laws.{boxes_stand}
use Rattle.images.specs.Checks.{block}
use Rattle.images.proofs.Boxing.{lows_room}
use Rattle.images.proofs.Pieces.{length_box_at}
use Rattle.images.proofs.Blocks.{block_le, block_top}

pub span_pos : (ws ord : List ℕ) (l i : ℕ) → 0 < span ws ord l i
span_pos ws ord l i = pow_pos (get_or ws i 0 - named i (take l ord))

module _ (ws ord : List ℕ) (h : Names ws ord) where
  -- the box around a point in numbers
  pub corner_is : (d : ℕ) (ps : List ℕ) → d ≤ length ord → Point ws ps → (i : ℕ) → i < length ws → get_or (lows ws ord (box_at ws ord d ps)) i 0 ≡ block (span ws ord d i) (get_or ps i 0)
  corner_is d ps k p i m = (boxes_stand ws ord h).corner d ps k p i m

  -- key i of a point changed inside the box b
  pub move_lies : (b : Path) (r : List ℕ) → Lies ws ord b r → length r ≡ length ws → (i v : ℕ) → i < length ws → get_or (lows ws ord b) i 0 ≤ v → v < get_or (lows ws ord b) i 0 + span ws ord (length b) i
      → Lies ws ord b (set r i v)
  move_lies b r w l i v k a z q m = elim (cases_eq q i) [
    | inl e ↦ let n : i < length r = omega arith in rw (e, get_or-set_same) (a, z)
    | inr ne ↦ rw (get_or-set_other r i q v 0 ne) (w q m)
  ]

  pub move_point : (b : Path) (r : List ℕ) → Point ws r → (i v : ℕ) → i < length ws → v < get_or (lows ws ord b) i 0 + span ws ord (length b) i → Point ws (set r i v)
  move_point b r p i v k z = record {
    long = length-set r i v ∙ p.long;
    inside = λ q m. elim (cases_eq q i) [
      | inl e ↦ let n : i < length r = omega (arith, p.long) in rw (e, get_or-set_same) (omega (arith, lows_room b ws ord h i, span_is ws ord (length b) i h))
      | inr ne ↦ rw (get_or-set_other r i q v 0 ne) (p.inside q m)
    ];
  }

  -- in one block, in one box
  pub move_box : (d : ℕ) (r : List ℕ) → d ≤ length ord → Point ws r → (i v : ℕ) → i < length ws → block (span ws ord d i) v ≡ block (span ws ord d i) (get_or r i 0)
      → Lies ws ord (box_at ws ord d r) (set r i v)
  move_box d r k p i v m e q l =
      subst (λ n. (get_or (lows ws ord (box_at ws ord d r)) q 0 ≤ get_or (set r i v) q 0) × (get_or (set r i v) q 0 < get_or (lows ws ord (box_at ws ord d r)) q 0 + span ws ord n q)) (sym (length_box_at ws ord r d k))
      (elim (cases_eq q i) [
        | inl u ↦ subst (λ x. (get_or (lows ws ord (box_at ws ord d r)) x 0 ≤ get_or (set r i v) x 0) × (get_or (set r i v) x 0 < get_or (lows ws ord (box_at ws ord d r)) x 0 + span ws ord d x)) (sym u)
            (let g = get_or-set_same r i v 0 (omega (arith, p.long)) in let c = corner_is d r k p i m in
            (omega (arith, block_le (span ws ord d i) v), omega (arith, block_top (span ws ord d i) v (span_pos ws ord d i))))
        | inr ne ↦
            let g = get_or-set_other r i q v 0 ne in let c = corner_is d r k p q l in
            (omega (arith, block_le (span ws ord d q) (get_or r q 0)), omega (arith, block_top (span ws ord d q) (get_or r q 0) (span_pos ws ord d q)))
      ])
