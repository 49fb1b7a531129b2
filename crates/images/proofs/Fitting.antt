-- What the test of one cell in one key decides.
use Rattle.std.proofs.Common.{◌≡◌, ℕ, ◌+◌, ◌%◌, ◌<◌, ◌≤◌, Bool, true, false, cond, ◌&&◌, ◌||◌, eqb, ltb, leb, ◌⊎◌, List, [], length, get_or, Decides, sym, refl, ap, ◌∙◌, subst, ap₂, inl, inr, arith}
use Rattle.std.proofs.lemmas.Bool.{cases_lt, and_parts, or_cases, leb-true, eqb-true, le-leb, lt-leb, lt-ltb, le-ltb, eq-eqb, cond-true, cond-false, false≢true}
use Rattle.boxes.specs.declared.grid_box.GridBox.{GridBox}
use Rattle.boxes.specs.GridBoxes.{box_of}
use Rattle.boxes.specs.Points.{lows}
use Rattle.boxes.specs.Space.{span}
use Rattle.boxes.specs.Spaces.{widths_of, order_of}
use Rattle.boxes.proofs.OfBoxes.{low_key, box_long}
use Rattle.images.specs.declared.held_image.HeldImage.{HeldImage}
use Rattle.images.specs.Cells.{start, digit, stride}
use Rattle.images.specs.Checking.{Fits}
use Rattle.images.specs.Checks.{block, cell_low, cell_high, cell_span}
use Rattle.images.specs.Directory.{Tile, intervals, named_in}
use Rattle.images.specs.Loops.{key_ok}
use Rattle.images.specs.Memory.{scales_in, tile_in, image_of}
use Rattle.images.proofs.Digits.{next_cell}
use Rattle.images.proofs.Memory.{keys_in}
use Rattle.images.proofs.Scales.{get_or_listed}

-- what the test of one key says
key_covers : (es : List ℕ) (own top j s s' : ℕ) (alike : Bool) → key_ok es own top j s s' alike ≡ true → get_or es j top ≤ block s (start own es j) + s
key_covers es own top j s s' alike e = leb-true (get_or es j top) (block s (start own es j) + s) (and_parts (leb (get_or es j top) (block s (start own es j) + s)) _ e).0

key_alike : (es : List ℕ) (own top j s s' : ℕ) (alike : Bool) → key_ok es own top j s s' alike ≡ true → j < length es
    → (get_or es j top < block s (start own es j) + s) ⊎ (0 < get_or es j top % s') → alike ≡ true
key_alike es own top j s s' alike e l w =
    let high = get_or es j top in
    let reach = block s (start own es j) + s in
    let a = (and_parts (leb high reach) (leb (length es) j || (alike || (leb reach high && eqb (high % s') 0))) e).1 in
    elim (or_cases (leb (length es) j) (alike || (leb reach high && eqb (high % s') 0)) a) [
      | inl x ↦ absurd (omega (arith, leb-true (length es) j x))
      | inr x ↦ elim (or_cases alike (leb reach high && eqb (high % s') 0) x) [
        | inl y ↦ y
        | inr y ↦ let z = and_parts (leb reach high) (eqb (high % s') 0) y in
            absurd (elim w [ inl v ↦ omega (arith, leb-true reach high z.0) | inr v ↦ omega (arith, eqb-true (high % s') 0 z.1) ])
      ]
    ]

-- and what makes it pass
key_passes : (es : List ℕ) (own top j s s' : ℕ) (alike : Bool) → get_or es j top ≤ block s (start own es j) + s
    → (j < length es → get_or es j top < block s (start own es j) + s → alike ≡ true) → (j < length es → 0 < get_or es j top % s' → alike ≡ true) → key_ok es own top j s s' alike ≡ true
key_passes es own top j s s' alike c up down = elim (cases_lt j (length es)) [
  | inl k ↦ go k alike (up k) (down k)
  | inr k ↦ rw (le-leb (get_or es j top) (block s (start own es j) + s) c, le-leb (length es) j k) refl
]
  where
    go : j < length es → (a : Bool) → (get_or es j top < block s (start own es j) + s → a ≡ true) → (0 < get_or es j top % s' → a ≡ true) → key_ok es own top j s s' a ≡ true
    go k true u v = rw (le-leb (get_or es j top) (block s (start own es j) + s) c, lt-leb (length es) j k) refl
    go k false u v = elim (cases_lt (get_or es j top) (block s (start own es j) + s)) [
      | inl h ↦ absurd (false≢true (u h))
      | inr h ↦ elim (cases_lt 0 (get_or es j top % s')) [
        | inl z ↦ absurd (false≢true (v z))
        | inr z ↦ let n : get_or es j top % s' ≡ 0 = omega arith in
            rw (le-leb (get_or es j top) (block s (start own es j) + s) c, lt-leb (length es) j k, le-leb (block s (start own es j) + s) (get_or es j top) h, eq-eqb (get_or es j top % s') 0 n) refl
      ]
    ]

module _ (g : GridBox) {E C : ℕ} (d : HeldImage E C) (keys : d.keys ≡ g.space.now.keys) (i m : ℕ) (il : i < d.keys) (ml : m < intervals (scales_in d)) where
  abbrev ws : List ℕ
  ws = widths_of g.space.now

  abbrev ord : List ℕ
  ord = order_of g.space.now

  abbrev Ends : List ℕ
  Ends = get_or (scales_in d) i []

  abbrev J : ℕ
  J = digit (scales_in d) i m

  named : (n : ℕ) → n < intervals (scales_in d) → named_in (image_of d) n ≡ tile_in d n
  named n l = get_or_listed (intervals (scales_in d)) (tile_in d) n (record { page = 0; level = 0 }) l

  pub neighbour_below : (q : ℕ) → q ≡ cond (ltb J (length Ends)) (m + stride (scales_in d) i) m → q < intervals (scales_in d)
  neighbour_below q e = elim (cases_lt J (length Ends)) [
    | inl k ↦ let z = next_cell (scales_in d) m i ml (omega (arith, keys_in d)) k in let w : q ≡ m + stride (scales_in d) i = e ∙ cond-true (ltb J (length Ends)) (m + stride (scales_in d) i) m (lt-ltb J (length Ends) k) in omega arith
    | inr k ↦ let w : q ≡ m = e ∙ cond-false (ltb J (length Ends)) (m + stride (scales_in d) i) m (le-ltb J (length Ends) k) in omega arith
  ]

  module _ (own top s s' q : ℕ) (alike r : Bool) (eo : own ≡ get_or g.low i 0) (et : top ≡ get_or (lows ws ord (box_of g)) i 0 + span ws ord g.level i)
      (es : s ≡ span ws ord (tile_in d m).level i) (eq : q ≡ cond (ltb J (length Ends)) (m + stride (scales_in d) i) m) (es' : s' ≡ span ws ord (tile_in d q).level i)
      (da : Decides alike (tile_in d q ≡ tile_in d m)) (er : r ≡ key_ok Ends own top J s s' alike) where
    low_is : cell_low ws ord (box_of g) (image_of d) m i ≡ start own Ends J
    low_is = ap (λ x. start x Ends J) (low_key g i (omega (arith, il, keys)) ∙ sym eo)

    high_is : cell_high ws ord (box_of g) (image_of d) m i ≡ get_or Ends J top
    high_is = ap (λ x. get_or Ends J x) (ap (λ n. get_or (lows ws ord (box_of g)) i 0 + span ws ord n i) (box_long g) ∙ sym et)

    span_is : cell_span ws ord (image_of d) m i ≡ s
    span_is = ap (λ (t : Tile). span ws ord t.level i) (named m ml) ∙ sym es

    reach_is : block (cell_span ws ord (image_of d) m i) (cell_low ws ord (box_of g) (image_of d) m i) + cell_span ws ord (image_of d) m i ≡ block s (start own Ends J) + s
    reach_is = ap₂ (λ a b. block a b + a) span_is low_is

    next_is : J < length Ends → q ≡ m + stride (scales_in d) i
    next_is k = eq ∙ cond-true (ltb J (length Ends)) (m + stride (scales_in d) i) m (lt-ltb J (length Ends) k)

    next_named : J < length Ends → named_in (image_of d) (m + stride (scales_in d) i) ≡ tile_in d q
    next_named k = named (m + stride (scales_in d) i) (next_cell (scales_in d) m i ml (omega (arith, keys_in d)) k) ∙ ap (tile_in d) (sym (next_is k))

    next_span : J < length Ends → cell_span ws ord (image_of d) (m + stride (scales_in d) i) i ≡ s'
    next_span k = ap (λ (t : Tile). span ws ord t.level i) (next_named k) ∙ sym es'

    same : J < length Ends → alike ≡ true → named_in (image_of d) (m + stride (scales_in d) i) ≡ named_in (image_of d) m
    same k a = next_named k ∙ da.0 a ∙ sym (named m ml)

    same_back : J < length Ends → named_in (image_of d) (m + stride (scales_in d) i) ≡ named_in (image_of d) m → alike ≡ true
    same_back k e = da.1 (sym (next_named k) ∙ e ∙ named m ml)

    high_rest : J < length Ends → cell_high ws ord (box_of g) (image_of d) m i % cell_span ws ord (image_of d) (m + stride (scales_in d) i) i ≡ get_or Ends J top % s'
    high_rest k = ap₂ (λ a b. a % b) high_is (next_span k)

    pub decided : Decides r (Fits g d i m)
    decided = (
      (λ e. let ok = sym er ∙ e in record {
        covers = omega (arith, key_covers Ends own top J s s' alike ok, high_is, reach_is);
        up = λ k h. same k (key_alike Ends own top J s s' alike ok k (inl (omega (arith, h, high_is, reach_is))));
        down = λ k h. same k (key_alike Ends own top J s s' alike ok k (inr (subst (λ n. 0 < n) (high_rest k) h)));
      }),
      (λ f. er ∙ key_passes Ends own top J s s' alike (omega (arith, f.covers, high_is, reach_is))
          (λ k h. same_back k (f.up k (omega (arith, h, high_is, reach_is))))
          (λ k h. same_back k (f.down k (subst (λ n. 0 < n) (sym (high_rest k)) h)))),
    )
