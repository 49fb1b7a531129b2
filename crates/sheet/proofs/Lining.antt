-- The lines of a text, one after another.
use Rattle.std.proofs.Common.{◌≡◌, ℕ, zero, suc, ◌+◌, ◌-◌, ◌<◌, ◌≤◌, cond, ◌⊎◌, List, [], ◌∷◌, length, get_or, take, drop, sym, refl, ap, ◌∙◌, inl, inr, arith}
use Rattle.std.proofs.lemmas.List.{drop-drop, get_or-drop, length-drop}
use Rattle.std.proofs.lemmas.Bool.{eq-eqb, ne_eqb}
use Rattle.numbers.specs.Words.{FirstAt}
use Rattle.sheet.specs.Lines.{begin, lines}

-- the first line ends at n
first_line : (bs : List ℕ) (n : ℕ) → 0 < length bs → n ≤ length bs → ((i : ℕ) → i < n → get_or bs i 0 ≡ 10 → ⊥) → (n ≡ length bs) ⊎ (get_or bs n 0 ≡ 10) → lines bs ≡ take n bs ∷ lines (drop (suc n) bs)
first_line [] n k h w e = absurd (omega arith)
first_line (b ∷ bs) zero k h w (inl e) = absurd (omega arith)
first_line (b ∷ bs) zero k h w (inr e) = ap (λ t. cond t ([] ∷ lines bs) (begin b (lines bs))) (eq-eqb b 10 e)
first_line (b ∷ []) (suc zero) k h w e = ap (λ t. cond t ([] ∷ []) ((b ∷ []) ∷ [])) (ne_eqb b 10 (w 0 (omega arith)))
first_line (b ∷ []) (suc (suc n)) k h w e = absurd (omega arith)
first_line (b ∷ (a ∷ bs)) (suc n) k h w e =
    let ih = first_line (a ∷ bs) n (omega arith) (omega arith) (λ i l. w (suc i) (omega arith)) (elim e [ inl q ↦ inl (omega arith) | inr q ↦ inr q ]) in
    ap (λ t. cond t ([] ∷ lines (a ∷ bs)) (begin b (lines (a ∷ bs)))) (ne_eqb b 10 (w 0 (omega arith))) ∙ ap (begin b) ih

-- the line from s on ends at r
pub next_line : (bs : List ℕ) (s r : ℕ) → s < length bs → FirstAt bs s 10 r → (s ≤ r) × (lines (drop s bs) ≡ take (r - s) (drop s bs) ∷ lines (drop (r + 1) bs))
next_line bs s r h f =
    let le : s ≤ r = elim f.2 [ inl e ↦ omega arith | inr e ↦ e.0 ] in
    let long = length-drop s bs in
    let first = first_line (drop s bs) (r - s) (omega arith) (omega (arith, f.0)) (λ i k q. f.1 (s + i) (omega arith) (omega arith) (sym (get_or-drop s bs i 0) ∙ q))
    (elim f.2 [ inl e ↦ inl (omega arith) | inr e ↦ inr (get_or-drop s bs (r - s) 0 ∙ ap (λ i. get_or bs i 0) (omega arith) ∙ e.2) ]) in
    let on : drop (suc (r - s)) (drop s bs) ≡ drop (r + 1) bs = drop-drop (suc (r - s)) s bs ∙ ap (λ i. drop i bs) (omega arith) in
    (le, first ∙ ap (λ us. take (r - s) (drop s bs) ∷ lines us) on)

-- the first line of a text, and the further ones
pub head_line : (bs : List ℕ) (r : ℕ) → FirstAt bs 0 10 r → (get_or (lines bs) 0 [] ≡ take r bs) × (drop 1 (lines bs) ≡ lines (drop (r + 1) bs))
head_line [] zero f = (refl, refl)
head_line [] (suc r) f = absurd (omega (arith, f.0))
head_line (b ∷ bs) r f =
    let next = (next_line (b ∷ bs) 0 r (omega arith) f).1 in
    let same : take (r - 0) (b ∷ bs) ≡ take r (b ∷ bs) = ap (λ n. take n (b ∷ bs)) (omega arith) in
    (ap (λ ls. get_or ls 0 []) next ∙ same, ap (drop 1) next)
