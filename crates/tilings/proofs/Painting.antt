-- Cells that are painted one after another.
use Rattle.std.proofs.Common.{◌≡◌, ℕ, ◌+◌, ◌<◌, ◌≤◌, true, cond, List, [], ◌∷◌, ◌++◌, length, get_or, take, drop, set, sym, refl, ap, ◌∙◌, subst, inl, inr, arith, below_more}
use Rattle.std.proofs.lemmas.List.{get_or-set_same, get_or-set_other, get_or-take, get_or_push, length-set, length-append, take_all, take_at, take-take, drop_more, drop_all}
use Rattle.std.proofs.lemmas.Bool.{cases_Bool, cond-true, cond-false, both_ways}
use Rattle.boxes.specs.Cuts.{Path, around}
use Rattle.boxes.specs.GridBoxes.{box_of, IsBox}
use Rattle.boxes.specs.Points.{Point, path}
use Rattle.boxes.specs.Space.{Lies}
use Rattle.boxes.specs.Spaces.{widths_of, order_of}
use Rattle.boxes.specs.declared.grid_box.GridBox.{GridBox}
use Rattle.boxes.specs.declared.space.Space.{Space}
use Rattle.boxes.proofs.Halves.{length_box}
use Rattle.boxes.proofs.Lows.{lows_point}
use Rattle.boxes.proofs.OfBoxes.{names}
use Rattle.boxes.proofs.Spans.{around_lies, lies_around}
use Rattle.images.specs.declared.held_image.HeldImage.{HeldImage}
use Rattle.images.specs.declared.held_image.Named.{Named}
use Rattle.images.specs.Directory.{Tile as Entry, intervals}
use Rattle.images.specs.Memory.{scales_in, tile}
use Rattle.images.specs.Tilings.{tile_of, found}
use Rattle.images.proofs.Scales.{get_or_in}
use Rattle.tilings.specs.declared.tile.Tile.{Tile}
use Rattle.tilings.specs.Naming.{cell, Within, corner_from, Painted, Cornered, TilePainted}
use Rattle.tilings.specs.Tiles.{OnGrid, AllOn, tile_lows, tile_box, piece_of, pieces_of}

-- the first i cells are painted, the others as they were
abbrev pub PaintedSo : {E C : ℕ} → HeldImage E C → List ℕ → GridBox → Named → List Named → ℕ → List Named → Type 0
PaintedSo d low g n old i new = ((m : ℕ) → m < i → (Within g (corner_from d low m) → cell new m ≡ n) × ((Within g (corner_from d low m) → ⊥) → cell new m ≡ cell old m))
    × ((m : ℕ) → i ≤ m → cell new m ≡ cell old m) × (length new ≡ length old)

module _ {E C : ℕ} (d : HeldImage E C) (low : List ℕ) (g : GridBox) (n : Named) (old : List Named) (i : ℕ) (new : List Named) (inv : PaintedSo d low g n old i new) where
  pub paint_hit : i < length new → Within g (corner_from d low i) → PaintedSo d low g n old (i + 1) (set new i n)
  paint_hit l w = (
    below_more _ _
        (λ m k. let e = get_or-set_other new i m n (record { page = 0; level = 0 }) (λ q. omega arith) in ((λ v. e ∙ (inv.0 m k).0 v), (λ v. e ∙ (inv.0 m k).1 v)))
        ((λ v. get_or-set_same new i n (record { page = 0; level = 0 }) l), (λ v. absurd (v w))),
    (λ m k. get_or-set_other new i m n (record { page = 0; level = 0 }) (λ q. omega arith) ∙ inv.1 m (omega arith)),
    length-set new i n ∙ inv.2,
  )

  pub paint_miss : (Within g (corner_from d low i) → ⊥) → PaintedSo d low g n old (i + 1) new
  paint_miss w = (below_more _ _ inv.0 ((λ v. absurd (w v)), (λ v. inv.1 i (omega arith))), (λ m k. inv.1 m (omega arith)), inv.2)

-- a tile on the grid begins at a point
pub tile_point : (s : Space) (t : Tile) → OnGrid s t → Point (widths_of s) (tile_lows s t)
tile_point s t o = subst (Point (widths_of s)) o.1 (lows_point (widths_of s) (order_of s) (tile_box s t) (names s))

pub tile_short : (s : Space) (t : Tile) → OnGrid s t → length (tile_box s t) ≡ t.level
tile_short s t o = length_box (widths_of s) (order_of s) t.level (tile_lows s t) (omega (arith, o.0, s.long))

-- the points in a box are those whose ways lead through it
module _ (s : Space) (t : Tile) (o : OnGrid s t) (b : GridBox) (is : IsBox s (tile_box s t) b) (ps : List ℕ) (p : Point (widths_of s) ps) where
  pub around_within : around (tile_box s t) (path (widths_of s) (order_of s) ps) ≡ true → Within b ps
  around_within a =
      let v : Point (widths_of s) ps × Lies (widths_of s) (order_of s) (tile_box s t) ps = (p, around_lies (tile_box s t) (widths_of s) (order_of s) ps (names s) p a) in
      subst (λ (u : Space). Point (widths_of u) ps × Lies (widths_of u) (order_of u) (box_of b) ps) (sym is.0)
      (subst (λ (q : Path). Point (widths_of s) ps × Lies (widths_of s) (order_of s) q ps) (sym is.1) v)

  pub within_around : Within b ps → around (tile_box s t) (path (widths_of s) (order_of s) ps) ≡ true
  within_around w =
      let v : Point (widths_of s) ps × Lies (widths_of s) (order_of s) (tile_box s t) ps =
      subst (λ (q : Path). Point (widths_of s) ps × Lies (widths_of s) (order_of s) q ps) is.1
      (subst (λ (u : Space). Point (widths_of u) ps × Lies (widths_of u) (order_of u) (box_of b) ps) is.0 w) in
      lies_around (tile_box s t) (widths_of s) (order_of s) ps (names s) (omega (arith, tile_short s t o, o.0, s.long)) p v.1

-- the cells of a tile
pub painted_tile : {E C : ℕ} (d : HeldImage E C) (g : GridBox) (t : Tile) (b : GridBox) (n : Named) (old new : List Named) → IsBox g.space.now (tile_box g.space.now t) b
    → n.page ≡ t.page → n.level ≡ t.level → Painted d g.low b n old new → TilePainted d g t old new
painted_tile d g t b n old new is page level painted corners o m l =
    let s = g.space.now in
    let ps = corner_from d g.low m in
    let p = corners.1 m l in
    let a = around (tile_box s t) (path (widths_of s) (order_of s) ps) in
    let x = tile_of (piece_of s t) in
    let z = tile (cell old m) in
    let deep = level ∙ sym (tile_short s t o) in
    let same : tile n ≡ x = λ j. record { page = page j; level = deep j } in
    elim (cases_Bool a) [
      | inl e ↦ ap tile ((painted m l).0 (around_within s t o b is ps p e)) ∙ same ∙ sym (cond-true a x z e)
      | inr e ↦ ap tile ((painted m l).1 (λ w. both_ways a e (within_around s t o b is ps p w))) ∙ sym (cond-false a x z e)
    ]

-- the tiles from i on have painted the cells
abbrev pub NamedSo : {E C : ℕ} → HeldImage E C → GridBox → List Tile → List Named → ℕ → List Named → Type 0
NamedSo d g ts old i new = Cornered d g → AllOn g.space.now ts → ((m : ℕ) → cell old m ≡ record { page = 0; level = 0 }) → (m : ℕ) → m < intervals (scales_in d)
    → tile (cell new m) ≡ found (path (widths_of g.space.now) (order_of g.space.now) (corner_from d g.low m)) (pieces_of g.space.now (drop i ts))

pub named_none : {E C : ℕ} (d : HeldImage E C) (g : GridBox) (ts : List Tile) (old : List Named) (i : ℕ) → length ts ≤ i → NamedSo d g ts old i old
named_none d g ts old i l corners on none m k =
    ap tile (none m) ∙ sym (ap (λ (us : List Tile). found (path (widths_of g.space.now) (order_of g.space.now) (corner_from d g.low m)) (pieces_of g.space.now us)) (drop_all i ts l))

pub named_more : {E C : ℕ} (d : HeldImage E C) (g : GridBox) (ts : List Tile) (old : List Named) (i : ℕ) (t : Tile) (mid new : List Named) → i < length ts → NamedSo d g ts old (i + 1) mid
    → TilePainted d g (get_or ts i t) mid new → NamedSo d g ts old i new
named_more d g ts old i t mid new l inv painted corners on none m k =
    let s = g.space.now in
    let w = path (widths_of s) (order_of s) (corner_from d g.low m) in
    let x = get_or ts i t in
    painted corners (on x (get_or_in ts i t l)) m k
    ∙ ap (λ (z : Entry). cond (around (tile_box s x) w) (tile_of (piece_of s x)) z) (inv corners on none m k)
    ∙ sym (ap (λ (us : List Tile). found w (pieces_of s us)) (drop_more ts i t l))

-- at first all tiles are left
pub all_left : (all ts : List Tile) → all ≡ ts → (length all ≤ length ts) × (all ≡ take (length all) ts) × (length ts ≤ length all)
all_left all ts e = let l = ap length e in (omega arith, e ∙ sym (take_all (length all) ts (omega arith)), omega arith)

-- the last of the tiles that are left is taken
pub last_left : (all rest ts : List Tile) (t : Tile) → length all ≤ length ts → all ≡ take (length all) ts → all ≡ rest ++ (t ∷ [])
    → (length rest ≤ length ts) × (rest ≡ take (length rest) ts) × (length rest < length ts) × (t ≡ get_or ts (length rest) t) × (length all ≡ length rest + 1)
last_left all rest ts t l front e =
    let n = length rest in
    let long : length all ≡ n + 1 = ap length e ∙ length-append rest (t ∷ []) in
    let both : take (n + 1) ts ≡ rest ++ (t ∷ []) = ap (λ k. take k ts) (sym long) ∙ sym front ∙ e in (
      omega arith,
      sym (take_at rest (t ∷ []) n refl) ∙ ap (take n) (sym both) ∙ take-take n (n + 1) ts (omega arith),
      omega arith,
      sym (get_or_push rest t t n refl) ∙ ap (λ (us : List Tile). get_or us n t) (sym both) ∙ get_or-take (n + 1) ts n t (omega arith),
      long,
    )
