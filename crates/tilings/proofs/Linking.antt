-- The scales in numbers are those of the pieces, the corners of their cells are points, and the image is the one built from them.
use Rattle.std.proofs.Common.{◌≡◌, ℕ, zero, suc, ◌<◌, ◌≤◌, List, [], ◌∷◌, length, get_or, take, Some, None, Option, sym, refl, ap, ◌∙◌, subst, ap₂, inl, inr, arith}
use Rattle.std.proofs.lemmas.List.{get_or-take}
use Rattle.boxes.specs.Cuts.{Path, In}
use Rattle.boxes.specs.GridBoxes.{box_of}
use Rattle.boxes.specs.Points.{Names, Point, path, lows}
use Rattle.boxes.specs.Spaces.{widths_of, order_of}
use Rattle.boxes.specs.declared.grid_box.GridBox.{GridBox}
use Rattle.boxes.specs.declared.space.Space.{Space}
use Rattle.boxes.proofs.Cuts.{in_map_back}
use Rattle.boxes.proofs.Lows.{length_lows, lows_point}
use Rattle.boxes.proofs.OfBoxes.{names, low_key, box_long}
use Rattle.images.specs.declared.held_image.HeldImage.{HeldImage}
use Rattle.images.specs.declared.held_image.Named.{Named}
use Rattle.images.specs.Cells.{corner, digit, start}
use Rattle.images.specs.declared.image_size.ImageSize.{ImageSize}
use Rattle.images.specs.Directory.{Image, Lawful, inner, intervals}
use Rattle.images.specs.Parts.{parted, total}
use Rattle.images.specs.Sizes.{SizeOf}
use Rattle.images.specs.Memory.{scales_in, tile}
use Rattle.images.specs.Tilings.{Piece, Tiling, Depicts, listed, over, lower_ends, scales_of, built, found}
use Rattle.images.proofs.Counts.{inner_parted, intervals_parted}
use Rattle.images.proofs.Depicts.{depicted_stands}
use Rattle.images.proofs.Laws.{built_stands}
use Rattle.images.proofs.Places.{length_corner, corner_at, digit_le}
use Rattle.images.proofs.Scales.{length_listed, get_or_listed, start_in, over_in}
use Rattle.tilings.specs.declared.tile.Tile.{Tile}
use Rattle.tilings.specs.Filling.{Fits}
use Rattle.tilings.specs.Images.{scales, Sized, Paged}
use Rattle.tilings.specs.Naming.{cell, corner_from, Cornered}
use Rattle.tilings.specs.Tiles.{AllOn, tile_box, piece_of, pieces_of, lows_in, scales_in_numbers}

pub listed_same : {A : Type 0} (n : ℕ) (f g : ℕ → A) → ((i : ℕ) → i < n → f i ≡ g i) → listed n f ≡ listed n g
listed_same zero f g e = refl
listed_same (suc n) f g e = ap₂ (λ x xs. x ∷ xs) (e 0 (omega arith)) (listed_same n (λ i. f (suc i)) (λ i. g (suc i)) (λ i l. e (suc i) (omega arith)))

-- the lower ends of the tiles are those of their boxes
pub lows_same : (s : Space) (ts : List Tile) → AllOn s ts → (i : ℕ) → i < s.keys → lows_in i ts ≡ lower_ends (widths_of s) (order_of s) i (pieces_of s ts)
lows_same s [] on i l = refl
lows_same s (t ∷ ts) on i l =
    let e : get_or t.low i 0 ≡ get_or (lows (widths_of s) (order_of s) (tile_box s t)) i 0 =
    sym (ap (λ (us : List ℕ). get_or us i 0) (on t (inl refl)).1 ∙ get_or-take s.keys t.low i 0 l) in
    ap₂ (λ (x : ℕ) (xs : List ℕ). x ∷ xs) e (lows_same s ts (λ u m. on u (inr m)) i l)

pub scales_same : (g : GridBox) (ts : List Tile) → AllOn g.space.now ts → scales_in_numbers g ts ≡ scales g ts
scales_same g ts on =
    let s = g.space.now in
    let ws = widths_of s in
    let ord = order_of s in
    listed_same s.keys (λ i. over (get_or g.low i 0) (lows_in i ts)) (λ i. over (get_or (lows ws ord (box_of g)) i 0) (lower_ends ws ord i (pieces_of s ts)))
    (λ i l. ap₂ over (sym (low_key g i l)) (lows_same s ts on i l))
    ∙ ap (λ n. listed n (λ i. over (get_or (lows ws ord (box_of g)) i 0) (lower_ends ws ord i (pieces_of s ts)))) (sym s.wide)

-- the size of the tiles' image, by how many ends each key has
pub sized_of : (g : GridBox) (ts : List Tile) (cs xs : List ℕ) → total cs ≤ length xs → length cs ≤ 4 → total cs ≤ 250 → parted cs xs ≡ scales_in_numbers g ts → (o : Option ImageSize) → SizeOf cs o → Sized g ts o
sized_of g ts cs xs room few most laid None h = λ on. absurd (h (few, most))
sized_of g ts cs xs room few most laid (Some s) h = λ on.
    let e = laid ∙ scales_same g ts on in
    let a = sym (inner_parted cs xs room) ∙ ap inner e in
    (h.2 ∙ a, h.3 ∙ sym (intervals_parted cs xs room) ∙ ap intervals e, omega (arith, a, most))

-- the corner of a cell is a point of the space, wherever the pieces lie
pub corner_on : (ws ord : List ℕ) → Names ws ord → (b : Path) (ts : List Piece) (n : ℕ) → n < intervals (scales_of ws ord b ts) → Point ws (corner (lows ws ord b) (scales_of ws ord b ts) n)
corner_on ws ord h b ts n k =
    let es = scales_of ws ord b ts in
    let ls = lows ws ord b in
    let long : length es ≡ length ws = length_listed (length ws) (λ i. over (get_or ls i 0) (lower_ends ws ord i ts)) in
    let same : length ls ≡ length es = length_lows ws ord b ∙ sym long in
    record {
      long = length_corner ls es n same ∙ long;
      inside = λ i l.
          let li : i < length es = omega arith in
          let e = corner_at ls es n i same li in
          let scale = get_or_listed (length ws) (λ j. over (get_or ls j 0) (lower_ends ws ord j ts)) i [] l in
          elim (start_in (get_or ls i 0) (get_or es i []) (digit es i n) (digit_le es n i k li)) [
            | inl q ↦ omega (arith, e, q, (lows_point ws ord b h).inside i l)
            | inr m ↦
                let x = start (get_or ls i 0) (get_or es i []) (digit es i n) in
                let r = over_in x (get_or ls i 0) (lower_ends ws ord i ts) (subst (λ (us : List ℕ). In x us) scale m) in
                let u = in_map_back (λ (t : Piece). get_or (lows ws ord t.box) i 0) x ts r.0 in
                omega (arith, e, u.1, (lows_point ws ord u.0.box h).inside i l)
          ];
    }

module _ {E C : ℕ} (d : HeldImage E C) (g : GridBox) (ts : List Tile) (on : AllOn g.space.now ts) (keys : d.keys ≡ g.space.now.keys) (laid : scales_in d ≡ scales_in_numbers g ts) where
  abbrev s : Space
  s = g.space.now

  abbrev ws : List ℕ
  ws = widths_of s

  abbrev ord : List ℕ
  ord = order_of s

  pub scales_are : scales_in d ≡ scales g ts
  scales_are = laid ∙ scales_same g ts on

  corner_is : (m : ℕ) → corner_from d g.low m ≡ corner (lows ws ord (box_of g)) (scales g ts) m
  corner_is m = ap₂ (λ (us : List ℕ) (vs : List (List ℕ)). corner us vs m) (ap (λ n. take n g.low) keys ∙ sym g.placed) scales_are

  pub cornered : Cornered d g
  cornered = (keys, λ m l. subst (Point ws) (sym (corner_is m)) (corner_on ws ord (names s) (box_of g) (pieces_of s ts) m (subst (λ (us : List (List ℕ)). m < intervals us) scales_are l)))

  -- the image with these scales, and the tiles in its cells
  pub built_of : (cells : List Named)
      → ((m : ℕ) → m < intervals (scales_in d) → tile (cell cells m) ≡ found (path ws ord (corner_from d g.low m)) (pieces_of s ts))
      → ◌≡◌ {A = Image} (record { ends = scales_in d; cells = listed (intervals (scales_in d)) (λ m. tile (cell cells m)) }) (built ws ord (box_of g) (pieces_of s ts))
  built_of cells named =
      let f = λ (m : ℕ). found (path ws ord (corner (lows ws ord (box_of g)) (scales g ts) m)) (pieces_of s ts) in
      let q : listed (intervals (scales_in d)) (λ m. tile (cell cells m)) ≡ listed (intervals (scales g ts)) f =
      listed_same (intervals (scales_in d)) (λ m. tile (cell cells m)) f (λ m l. named m l ∙ ap (λ (us : List ℕ). found (path ws ord us) (pieces_of s ts)) (corner_is m))
      ∙ ap (λ (us : List (List ℕ)). listed (intervals us) f) scales_are in
      λ i. record { ends = scales_are i; cells = q i }

-- what the image of a tiling shows
pub shown_of : {E C : ℕ} (img : Image) (g : GridBox) (ts : List Tile) → Fits E C (scales g ts) → img ≡ built (widths_of g.space.now) (order_of g.space.now) (box_of g) (pieces_of g.space.now ts)
    → Tiling (widths_of g.space.now) (order_of g.space.now) (box_of g) (pieces_of g.space.now ts)
    → Depicts (widths_of g.space.now) (order_of g.space.now) (box_of g) (pieces_of g.space.now ts) img
    × ((n : ℕ) → Paged n ts → Lawful (widths_of g.space.now) (order_of g.space.now) (box_of g) n E C img)
shown_of {E} {C} img g ts fits e tiling =
    let s = g.space.now in
    let ws = widths_of s in
    let ord = order_of s in
    let short : length (box_of g) ≤ length ord = omega (arith, box_long g, g.deep, s.long) in (
      subst (Depicts ws ord (box_of g) (pieces_of s ts)) (sym e) (depicted_stands ws ord (names s) (box_of g) short (pieces_of s ts) tiling).0,
      λ n paged. subst (Lawful ws ord (box_of g) n E C) (sym e)
          (built_stands ws ord (names s) (box_of g) short (pieces_of s ts) tiling n E C
          (λ p m. let r = in_map_back (piece_of s) p ts m in subst (λ (u : Piece). (8 ≤ u.page) × (u.page < n)) (sym r.1) (paged r.0 r.2)) fits.2 fits.3).0,
    )
