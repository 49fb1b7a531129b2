-- One key of a corner.
use Rattle.std.proofs.Common.{◌≡◌, ℕ, suc, ◌+◌, ◌-◌, ◌*◌, ◌/◌, ◌%◌, ◌<◌, ◌≤◌, List, [], ◌∷◌, ◌++◌, length, get_or, take, drop, set, sym, ap, ◌∙◌, ap₂, inl, inr, append_assoc, mul-le-mul_right, mod-lt, arith, length-drop}
use native.Mathlib.Nat.{mul-div_right}
use Rattle.std.proofs.lemmas.List.{drop_more, drop-drop, length-set, length-take-le, get_or-take, take_more_set}
use Rattle.std.proofs.lemmas.Bool.{cases_lt}
use Rattle.images.specs.Cells.{corner, start}
use Rattle.images.specs.Directory.{intervals}
use Rattle.images.specs.Parts.{parted, total}
use Rattle.images.proofs.Places.{intervals_pos}

-- What is left decides: the keys from i on, whose ends stand from `from` on, make `left` cells, of which it is number `rest`.
abbrev pub Turning : List ℕ → List ℕ → List ℕ → List ℕ → ℕ → ℕ → ℕ → ℕ → ℕ → Type 0
Turning low counts ends point number i from left rest =
    (take i point ++ corner (drop i (take (length counts) low)) (parted (drop i counts) (drop from ends)) rest ≡ corner (take (length counts) low) (parted counts ends) number)
    × (left ≡ intervals (parted (drop i counts) (drop from ends)))
    × (rest < left)
    × (from + total (drop i counts) ≤ length ends)
    × (length point ≡ 4)

module _ (low counts ends point : List ℕ) (number i from left rest : ℕ) (inside : i < length counts) (few : length counts ≤ 4) (four : length low ≡ 4) (inv : Turning low counts ends point number i from left rest) where
  abbrev lows : List ℕ
  lows = take (length counts) low

  wide : length lows ≡ length counts
  wide = length-take-le (length counts) low (omega arith)

  abbrev c : ℕ
  c = get_or counts i 0

  abbrev part : List ℕ
  part = drop from ends

  abbrev others : List (List ℕ)
  others = parted (drop (i + 1) counts) (drop c part)

  next : drop i counts ≡ c ∷ drop (i + 1) counts
  next = drop_more counts i 0 inside

  pub room_left : (from + c) + total (drop (i + 1) counts) ≤ length ends
  room_left = omega (arith, ap total next, inv.3)

  fits : c ≤ length part
  fits = omega (arith, room_left, length-drop from ends)

  width : from + c - from ≡ c
  width = omega arith

  far : drop c part ≡ drop (from + c) ends
  far = drop-drop c from ends

  -- the cells of the keys behind
  behind : left ≡ (c + 1) * intervals others
  behind =
      let more : suc c ≡ c + 1 = omega arith in
      inv.1 ∙ ap (λ (us : List ℕ). intervals (parted us part)) next ∙ ap (λ n. suc n * intervals others) (length-take-le c part fits) ∙ ap (λ n. n * intervals others) more

  divided : left / (c + 1) ≡ intervals others
  divided = ap (λ n. n / (c + 1)) behind ∙ mul-div_right (intervals others) {m = c + 1} (omega arith)

  left_next : left / (c + 1) ≡ intervals (parted (drop (i + 1) counts) (drop (from + c) ends))
  left_next = divided ∙ ap (λ (us : List ℕ). intervals (parted (drop (i + 1) counts) us)) far

  pub left_pos : 0 < left / (c + 1)
  left_pos = omega (arith, divided, intervals_pos others)

  rest_below : rest % (left / (c + 1)) < left / (c + 1)
  rest_below = mod-lt rest left_pos

  -- the number of its interval
  within : rest / (left / (c + 1)) ≤ c
  within =
      let I = left / (c + 1) in
      let whole : left ≡ (c + 1) * I = behind ∙ ap (λ n. (c + 1) * n) (sym divided) in
      elim (cases_lt c (rest / I)) [
        | inl m ↦ let p = left_pos in absurd (omega (arith, whole, inv.2, mul-le-mul_right I m))
        | inr m ↦ m
      ]

  pub within_part : rest / (left / (c + 1)) ≤ length (take (from + c - from) part)
  within_part = omega (arith, within, ap (λ n. length (take n part)) width, length-take-le c part fits)

  key_done : (v : ℕ) → v ≡ start (get_or lows i 0) (take (from + c - from) part) (rest / (left / (c + 1)))
      → take (i + 1) (set point i v) ++ corner (drop (i + 1) lows) (parted (drop (i + 1) counts) (drop (from + c) ends)) (rest % (left / (c + 1))) ≡ corner lows (parted counts ends) number
  key_done v e =
      let v' : v ≡ start (get_or lows i 0) (take c part) (rest / intervals others) =
      e ∙ ap₂ (λ n m. start (get_or lows i 0) (take n part) (rest / m)) width divided in
      ap (λ (us : List ℕ). us ++ corner (drop (i + 1) lows) (parted (drop (i + 1) counts) (drop (from + c) ends)) (rest % (left / (c + 1)))) (take_more_set point i v (omega (arith, inv.4)))
      ∙ append_assoc (take i point) (v ∷ []) (corner (drop (i + 1) lows) (parted (drop (i + 1) counts) (drop (from + c) ends)) (rest % (left / (c + 1))))
      ∙ ap (λ (us : List ℕ). take i point ++ (v ∷ us))
      (ap (λ n. corner (drop (i + 1) lows) (parted (drop (i + 1) counts) (drop (from + c) ends)) (rest % n)) divided
      ∙ ap (λ (us : List ℕ). corner (drop (i + 1) lows) (parted (drop (i + 1) counts) us) (rest % intervals others)) (sym far))
      ∙ ap (λ n. take i point ++ (n ∷ corner (drop (i + 1) lows) others (rest % intervals others))) v'
      ∙ ap (λ (us : List ℕ). take i point ++ corner us (take c part ∷ others) rest) (sym (drop_more lows i 0 (omega (arith, wide))))
      ∙ ap (λ (us : List ℕ). take i point ++ corner (drop i lows) (parted us part) rest) (sym next)
      ∙ inv.0

  pub turned : (v : ℕ) → v ≡ start (get_or low i 0) (take (from + c - from) part) (rest / (left / (c + 1))) → Turning low counts ends (set point i v) number (i + 1) (from + c) (left / (c + 1)) (rest % (left / (c + 1)))
  turned v e =
      let at : get_or low i 0 ≡ get_or lows i 0 = sym (get_or-take (length counts) low i 0 inside) in
      (key_done v (e ∙ ap (λ n. start n (take (from + c - from) part) (rest / (left / (c + 1)))) at), left_next, rest_below, room_left, length-set point i v ∙ inv.4)
