-- The span of a level by counting the halvings of its key.
use Rattle.std.proofs.Common.{cond, eqb, refl, ◌≡◌, ℕ, zero, suc, ◌+◌, ◌-◌, ◌*◌, ◌%◌, ◌^◌, ◌<◌, ◌≤◌, min, List, [], ◌∷◌, length, get_or, take, sym, ap, ◌∙◌, inl, inr, arith, pow_pos, pow_mono}
use Rattle.std.proofs.lemmas.Bool.{cases_lt}
use Rattle.std.specs.List.{count_by}
use Rattle.std.proofs.lemmas.List.{get_or-take, take_all, take-take}
use Rattle.std.proofs.lemmas.List.Recursion.{is_count_by}
use Rattle.boxes.specs.declared.space.Space.{Space}
use Rattle.boxes.specs.Order.{named}
use Rattle.boxes.specs.Space.{span}
use Rattle.boxes.specs.Spaces.{widths_of, order_of}
use Rattle.std.proofs.lemmas.Nat.{one_shl}
use Rattle.boxes.proofs.OfBoxes.{names, width_le}

named_front : (k : ℕ) (ord : List ℕ) (l : ℕ) → named k (take l ord) ≤ named k ord
named_front k ord zero = omega arith
named_front k [] (suc l) = omega arith
named_front k (o ∷ ord) (suc l) = let ih = named_front k ord l in grind arith

take_min : (a n : ℕ) (xs : List ℕ) → n ≡ min a (length xs) → take n xs ≡ take a xs
take_min a n xs e = elim (cases_lt a (length xs)) [
  | inl k ↦ let q : n ≡ a = omega arith in ap (λ m. take m xs) q
  | inr k ↦ let q : n ≡ length xs = omega arith in take_all n xs (omega arith) ∙ sym (take_all a xs k)
]

-- the bits that are left give the span
module _ (s : Space) (key level last bits : ℕ) (h : key < s.keys) (e : last ≡ min level s.depth) (inv : bits + named key (take last (order_of s)) ≡ get_or (widths_of s) key 0) where
  pub narrow : bits ≤ 32
  narrow = omega (arith, width_le s key h)

  pub shifted : (1 * 2 ^ bits) % 18446744073709551616 ≡ 2 ^ bits
  shifted = one_shl bits 64 (omega (arith, narrow))

  pub span_left : 2 ^ bits ≡ span (widths_of s) (order_of s) level key
  span_left =
      let t = take_min level last (order_of s) (e ∙ ap (min level) (sym s.long)) in
      let b : bits ≡ get_or (widths_of s) key 0 - named key (take level (order_of s)) = omega (arith, ap (named key) t) in
      ap (λ n. 2 ^ n) b

  pub some_span : 0 < 2 ^ bits
  some_span = pow_pos bits

  pub most_span : 2 ^ bits ≤ 4294967296
  most_span = pow_mono {i = bits} {j = 32} narrow

-- so many halvings of the key among the first ones are those that the order names
module _ (s : Space) (key level last count : ℕ) (h : key < s.keys) (e : last ≡ min level s.depth) (k : count ≡ count_by (λ o. eqb key o) (take last s.halvings)) where
  counted : count ≡ named key (take last (order_of s))
  counted = k ∙ sym (is_count_by (named key) (λ o. eqb key o) refl (λ o os. let one : suc (named key os) ≡ 1 + named key os = omega arith in ap (λ n. cond (eqb key o) n (named key os)) one) (take last s.halvings)) ∙ ap (named key) (sym (take-take last s.depth s.halvings (omega arith)))

  width : get_or (widths_of s) key 0 ≡ get_or s.widths key 0
  width = get_or-take s.keys s.widths key 0 h

  pub room : count ≤ get_or s.widths key 0
  room = omega (arith, counted, width, names s key, named_front key (order_of s) last)

  pub left_bits : (get_or s.widths key 0 - count) + named key (take last (order_of s)) ≡ get_or (widths_of s) key 0
  left_bits = omega (arith, counted, width, room)
