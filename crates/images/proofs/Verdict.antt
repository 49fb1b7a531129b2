-- The parts of the check together are the rules of an image.
use Rattle.std.proofs.Common.{◌≡◌, ℕ, ◌+◌, ◌%◌, ◌<◌, ◌≤◌, List, [], ◌∷◌, length, get_or, take, drop, sym, ap, ◌∙◌, subst, arith}
use Rattle.std.proofs.lemmas.List.{length-take}
use Rattle.boxes.specs.declared.grid_box.GridBox.{GridBox}
use Rattle.boxes.specs.GridBoxes.{box_of}
use Rattle.boxes.specs.Points.{lows}
use Rattle.boxes.specs.Space.{span}
use Rattle.boxes.specs.Spaces.{widths_of, order_of}
use Rattle.boxes.proofs.OfBoxes.{names, low_key, box_long}
use Rattle.images.specs.declared.held_image.HeldImage.{HeldImage}
use Rattle.images.specs.Checking.{LawfulIn, Allowed, KeyLawful}
use Rattle.images.specs.Directory.{Tile, inner, intervals, named_in}
use Rattle.images.specs.Memory.{scales_in, tile_in, image_of}
use Rattle.images.specs.Parts.{parted, total}
use Rattle.images.proofs.Checks.{checked_lawful}
use Rattle.images.proofs.Exact.{lawful_checked}
use Rattle.images.proofs.Memory.{keys_in}
use Rattle.images.proofs.Scales.{get_or_listed, length_listed}

inner_parted : (cs xs : List ℕ) → inner (parted cs xs) ≤ total cs
inner_parted [] xs = omega arith
inner_parted (c ∷ cs) xs = omega (arith, inner_parted cs (drop c xs), length-take c xs)

module _ (g : GridBox) {E C : ℕ} (d : HeldImage E C) (n : ℕ) where
  abbrev ws : List ℕ
  ws = widths_of g.space.now

  abbrev ord : List ℕ
  ord = order_of g.space.now

  abbrev Parts : Type 0
  Parts = (d.keys ≡ g.space.now.keys) × ((m : ℕ) → m < intervals (scales_in d) → Allowed g n d m) × ((i : ℕ) → i < d.keys → KeyLawful g d i)

  named : (m : ℕ) → m < intervals (scales_in d) → named_in (image_of d) m ≡ tile_in d m
  named m l = get_or_listed (intervals (scales_in d)) (tile_in d) m (record { page = 0; level = 0 }) l

  short : length (box_of g) ≤ length ord
  short = omega (arith, box_long g, g.deep, g.space.now.long)

  top_is : (i : ℕ) → get_or (lows ws ord (box_of g)) i 0 + span ws ord (length (box_of g)) i ≡ get_or (lows ws ord (box_of g)) i 0 + span ws ord g.level i
  top_is i = ap (λ l. get_or (lows ws ord (box_of g)) i 0 + span ws ord l i) (box_long g)

  pub parts_lawful : Parts → LawfulIn g n d
  parts_lawful p =
      let wide = g.space.now.wide in
      let key : (i : ℕ) → i < length ws → i < d.keys = λ i l. omega (arith, p.0, wide) in
      let allowed : (m : ℕ) → m < intervals (scales_in d) → Allowed g n d m = p.1 in
      checked_lawful ws ord (names g.space.now) (box_of g) n E C (image_of d)
      (record {
        scales = keys_in d ∙ p.0 ∙ sym wide;
        few_inner = omega (arith, inner_parted (take d.keys d.counts) d.ends, d.room);
        few_cells = d.small;
        all_cells = length_listed (intervals (scales_in d)) (tile_in d);
        rising = λ i l. d.rising i (omega (arith, keys_in d, key i l));
        inside = λ i j l k.
            let r = (p.2 i (key i l)).inside j k in
            (omega (arith, r.0, low_key g i (omega (arith, wide))), omega (arith, r.1, top_is i));
        used = λ i j l k.
            let r = (p.2 i (key i l)).used j k in
            (r.0, r.1, r.2.0, ap (λ (t : Tile). get_or (get_or (scales_in d) i []) j 0 % span ws ord t.level i) (named r.0 r.1) ∙ r.2.1);
        pages = λ m l. subst (λ (t : Tile). (8 ≤ t.page) × (t.page < n)) (sym (named m l)) ((allowed m l).0, (allowed m l).1);
        nested = λ m l. subst (λ (t : Tile). (length (box_of g) ≤ t.level) × (t.level ≤ length ord)) (sym (named m l))
            (omega (arith, box_long g, (allowed m l).2), omega (arith, (allowed m l).3, g.space.now.long));
        covers = λ m i l k. ((p.2 i (key i k)).fits m l).covers;
        alike_up = λ m i l k. ((p.2 i (key i k)).fits m l).up;
        alike_down = λ m i l k. ((p.2 i (key i k)).fits m l).down;
      })
      short

  pub lawful_parts : LawfulIn g n d → Parts
  lawful_parts lawful =
      let wide = g.space.now.wide in
      let ch = lawful_checked ws ord (names g.space.now) (box_of g) short n E C (image_of d) lawful in
      let same : d.keys ≡ g.space.now.keys = sym (keys_in d) ∙ ch.scales ∙ wide in
      let key : (i : ℕ) → i < d.keys → i < length ws = λ i l. omega (arith, same, wide) in (
        same,
        (λ m l.
            let a = subst (λ (t : Tile). (8 ≤ t.page) × (t.page < n)) (named m l) (ch.pages m l) in
            let b = subst (λ (t : Tile). (length (box_of g) ≤ t.level) × (t.level ≤ length ord)) (named m l) (ch.nested m l) in
            (a.0, a.1, omega (arith, b.0, box_long g), omega (arith, b.1, g.space.now.long))),
        (λ i l. record {
          inside = λ j k.
              let r = ch.inside i j (key i l) k in
              (omega (arith, r.0, low_key g i (omega (arith, same))), omega (arith, r.1, top_is i));
          used = λ j k.
              let r = ch.used i j (key i l) k in
              (r.0, r.1, (r.2, ap (λ (t : Tile). get_or (get_or (scales_in d) i []) j 0 % span ws ord t.level i) (sym (named r.0 r.1)) ∙ r.3));
          fits = λ m k. record { covers = ch.covers m i k (key i l); up = ch.alike_up m i k (key i l); down = ch.alike_down m i k (key i l) };
        }),
      )
