-- What an image in memory shows of a box in memory.
use Rattle.std.proofs.Common.{◌≡◌, ℕ, ◌<◌, ◌≤◌, Bool, true, false, List, [], ◌∷◌, length, get_or, Some, None, Option, sym, ap, ◌∙◌, subst, inl, inr, arith}
use Rattle.std.proofs.lemmas.Bool.{cases_lt, both_ways}
use Rattle.boxes.specs.Cuts.{Path, half}
use Rattle.boxes.specs.GridBoxes.{lows_of, box_of, IsBox}
use Rattle.boxes.specs.Points.{lows}
use Rattle.boxes.specs.Rising.{insert_all}
use Rattle.boxes.specs.Spaces.{widths_of, order_of}
use Rattle.boxes.specs.declared.grid_box.GridBox.{GridBox}
use Rattle.boxes.specs.declared.space.Space.{Space}
use Rattle.boxes.proofs.Lows.{length_lows}
use Rattle.boxes.proofs.OfBoxes.{names, low_key, box_long}
use Rattle.images.specs.declared.held_image.HeldImage.{HeldImage}
use Rattle.images.specs.declared.held_image.Named.{Named}
use Rattle.images.specs.Directory.{Tile, Image, tile_at}
use Rattle.images.specs.Memory.{tile, image_of}
use Rattle.images.proofs.Memory.{keys_in}
use Rattle.boxes.specs.declared.rising_ends.RisingEnds.{RisingEnds}
use Rattle.boxes.specs.RisingEnds.{ends_of, EndsJoined}
use Rattle.tilings.specs.Ends.{ShownIn, EndsIn}
use Rattle.tilings.proofs.Halving.{Exact, one_end, few_ends, below_last, half_shown, ends_joined}
use Rattle.boxes.proofs.Insertion.{rising_insert_all}

-- a test that failed
pub not_whole : (r : Bool) (a b : ℕ) → (a ≤ b → r ≡ true) → r ≡ false → b < a
not_whole r a b f e = elim (cases_lt b a) [ inl l ↦ l | inr l ↦ absurd (both_ways r e (f l)) ]

-- of a box in memory what holds of the box that it is
pub ends_at : (s : Space) (c : Path) (g : GridBox) (img : Image) (i : ℕ) (r : Option RisingEnds) → IsBox s c g
    → EndsIn (widths_of g.space.now) (order_of g.space.now) img (box_of g) i r → EndsIn (widths_of s) (order_of s) img c i r
ends_at s c g img i r is f =
    subst (λ (u : Space). EndsIn (widths_of u) (order_of u) img c i r) is.0
    (subst (λ (q : Path). EndsIn (widths_of g.space.now) (order_of g.space.now) img q i r) is.1 f)

module _ {E C : ℕ} (d : HeldImage E C) (g : GridBox) (i : ℕ) where
  abbrev s : Space
  s = g.space.now

  abbrev ws : List ℕ
  ws = widths_of s

  abbrev ord : List ℕ
  ord = order_of s

  abbrev img : Image
  img = image_of d

  abbrev c : Path
  c = box_of g

  short : length c ≤ length ord
  short = omega (arith, box_long g, g.deep, s.long)

  -- a box of another number of keys is not shown
  pub no_point : (length (lows_of g) ≡ d.keys → ⊥) → EndsIn ws ord img c i None
  no_point none b n shown = absurd (none (sym (ap length g.placed) ∙ length_lows ws ord c ∙ sym shown.lawful.scales ∙ keys_in d))

  -- what the image names at the lowest corner
  module _ (nm : Named) (named : tile nm ≡ tile_at img (lows_of g)) where
    level_at : (tile_at img (lows ws ord c)).level ≡ nm.level
    level_at = ap (λ (ps : List ℕ). (tile_at img ps).level) g.placed ∙ ap (λ (t : Tile). t.level) (sym named)

    pub one_box : i < s.keys → nm.level ≤ g.level → (e : RisingEnds) → ends_of e ≡ get_or g.low i 0 ∷ [] → EndsIn ws ord img c i (Some e)
    one_box l le e q = (
      omega (arith, s.wide),
      λ b n shown.
          subst (Exact ws ord img c i) (ap (λ x. x ∷ []) (low_key g i l) ∙ sym q) (one_end ws ord (names s) img b n c short shown (omega (arith, level_at, box_long g)) i),
    )

    -- there are smaller boxes
    module _ (deep : g.level < nm.level) where
      at_corner : length c < (tile_at img (lows ws ord c)).level
      at_corner = omega (arith, level_at, box_long g)

      pub no_half : g.level ≡ s.depth → EndsIn ws ord img c i None
      no_half e b n shown = absurd (omega (arith, below_last ws ord (names s) img b n c short shown at_corner, box_long g, s.long))

      pub half_none : (x : Bool) (h : GridBox) → IsBox s (half c x) h → EndsIn (widths_of h.space.now) (order_of h.space.now) img (box_of h) i None → EndsIn ws ord img c i None
      half_none x h is f b n shown = ends_at s (half c x) h img i None is f b n (half_shown ws ord (names s) img b n c short shown at_corner x)

      pub both_halves : (lo up : GridBox) (below above : RisingEnds) → IsBox s (half c false) lo → IsBox s (half c true) up
          → EndsIn (widths_of lo.space.now) (order_of lo.space.now) img (box_of lo) i (Some below)
          → EndsIn (widths_of up.space.now) (order_of up.space.now) img (box_of up) i (Some above)
          → (r : Option RisingEnds) → EndsJoined (ends_of below) (ends_of above) r → EndsIn ws ord img c i r
      both_halves lo up below above il iu fl fu r joined = go r joined
        where
          gl : EndsIn ws ord img (half c false) i (Some below)
          gl = ends_at s (half c false) lo img i (Some below) il fl

          gu : EndsIn ws ord img (half c true) i (Some above)
          gu = ends_at s (half c true) up img i (Some above) iu fu

          exact : (b : Path) (n : ℕ) → ShownIn ws ord img b n c → Exact ws ord img c i (insert_all (ends_of above) (ends_of below))
          exact b n shown =
              let k = at_corner in
              ends_joined ws ord (names s) img b n c short shown k i (ends_of below) (ends_of above)
              (gl.1 b n (half_shown ws ord (names s) img b n c short shown k false)) (gu.1 b n (half_shown ws ord (names s) img b n c short shown k true))

          go : (o : Option RisingEnds) → EndsJoined (ends_of below) (ends_of above) o → EndsIn ws ord img c i o
          go None full = λ b n shown.
              absurd (omega (
                arith,
                full,
                few_ends ws ord (names s) img b n c short shown i gl.0 (insert_all (ends_of above) (ends_of below))
                    (rising_insert_all (ends_of above) (ends_of below) below.rising) (λ x. (exact b n shown x).0),
              ))
          go (Some e) q = (gl.0, λ b n shown. subst (Exact ws ord img c i) (sym q) (exact b n shown))
