-- All bits of the bytes from the place on; past the page there is none.
use Rattle.std.proofs.Common.{◌≡◌, ℕ, zero, suc, ◌+◌, ◌-◌, ◌<◌, ◌≤◌, min, eqb, Bool, List, [], ◌∷◌, Decides, length, take, drop, get_or, refl, sym, ap, ap₂, ◌∙◌, length-drop, arith, rules, tests}
use Rattle.std.specs.Int.Bits.{bit_or, or_zero_l}
use Rattle.std.specs.List.{fold}
use Rattle.std.proofs.lemmas.Bool.{eqb-true, eq-eqb}
use Rattle.std.proofs.lemmas.Iterator.{YieldsList-from_slice}
use Rattle.std.proofs.lemmas.Iterator.Consumers.{fold_from_yields_List}
use Rattle.std.proofs.lemmas.List.{get_or-take, get_or-drop, length-take-le}
use Rattle.std.proofs.lemmas.Nat.{le_or_l, le_or_r}
use Rattle.buckets.specs.BucketRules.{ZeroFrom}
use Rattle.buckets.proofs.bucket.is_zero_from.Goals as goal

-- no bit is set exactly where all numbers are zero
no_bits : (xs : List ℕ) (a : ℕ) → fold bit_or a xs ≡ 0 → (a ≡ 0) × ((k : ℕ) → k < length xs → get_or xs k 0 ≡ 0)
no_bits [] a e = (e, λ k l. absurd (omega arith))
no_bits (x ∷ xs) a e =
    let h = no_bits xs (bit_or a x) e in
    let own : x ≡ 0 = omega (arith, h.0, le_or_r a x) in
    (omega (arith, h.0, le_or_l a x), at own h.1)
  where
    at : x ≡ 0 → ((k : ℕ) → k < length xs → get_or xs k 0 ≡ 0) → (k : ℕ) → k < suc (length xs) → get_or (x ∷ xs) k 0 ≡ 0
    at own rest zero l = own
    at own rest (suc k) l = rest k (omega arith)

zeros_only : (xs : List ℕ) (a : ℕ) → a ≡ 0 → ((k : ℕ) → k < length xs → get_or xs k 0 ≡ 0) → fold bit_or a xs ≡ 0
zeros_only [] a e z = e
zeros_only (x ∷ xs) a e z = zeros_only xs (bit_or a x) (ap₂ bit_or e (z 0 (omega arith)) ∙ or_zero_l 0) (λ k l. z (suc k) (omega arith))

zero_from : (page : List ℕ) (start from any : ℕ) → from ≡ min start 512 → length page ≡ 512 → any ≡ fold bit_or 0 (take (512 - from) (drop from page)) → Decides (eqb any 0) (ZeroFrom start page)
zero_from page start from any is long folded =
    let part = take (512 - from) (drop from page) in
    let rest : length part ≡ 512 - from = length-take-le (512 - from) (drop from page) (omega (arith, length-drop from page, long)) in
    let at : (k : ℕ) → k < 512 - from → get_or part k 0 ≡ get_or page (from + k) 0 = λ k m. get_or-take (512 - from) (drop from page) k 0 m ∙ get_or-drop from page k 0 in (
      (λ e k ge lt.
          let here : from + (k - from) ≡ k = omega (arith, is) in
          ap (λ n. get_or page n 0) (sym here) ∙ sym (at (k - from) (omega (arith, is)))
          ∙ (no_bits part 0 (sym folded ∙ eqb-true any 0 e)).1 (k - from) (omega (arith, rest, is))),
      (λ z. eq-eqb any 0 (folded ∙ zeros_only part 0 refl (λ k m. let l : k < 512 - from = omega (arith, rest) in at k l ∙ z (from + k) (omega (arith, is)) (omega arith)))),
    )

pub returns : goal.returns
returns c =
    let page = c.args.page.now in
    let from = c.min.result in
    let part = take (512 - from) (drop from page) in
    zero_from page c.args.start from c.fold.result c.min.ensures (search rules)
    (fold_from_yields_List _ bit_or 0 c.fold.result c.fold.ensures.ran (YieldsList-from_slice part cc) (λ a x b q k. search (rules, tests)))
