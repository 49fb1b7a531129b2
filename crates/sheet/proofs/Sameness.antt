-- A text has one answer.
use Rattle.std.proofs.Common.{◌≡◌, ℕ, suc, ◌<◌, List, [], ◌∷◌, ◌++◌, map, length, get_or, drop, sym, refl, ap, ◌∙◌, subst, ap₂, inl, inr, arith}
use Rattle.std.proofs.lemmas.List.{length-map, map-append}
use Rattle.boxes.specs.Figures.{figures}
use Rattle.boxes.specs.KeyLists.{keys_of}
use Rattle.numbers.specs.Numbers.{Written}
use Rattle.numbers.proofs.Wording.{one_reading}
use Rattle.sheet.specs.declared.verdict.Verdict.{Verdict}
use Rattle.sheet.specs.declared.verdict.Verdict.TheVariants.{Kept, NoPoint, Repeated}
use Rattle.sheet.specs.Answers.{Sheet, Answered}
use Rattle.sheet.specs.Lines.{lines}
use Rattle.sheet.specs.Printed.{row_text, rows_text, points_of, figures_text}
use Rattle.sheet.specs.Rows.{Gives, Becomes, Judged}
use Rattle.sheet.proofs.Listing.{point_in, points_step}

-- a line writes one list of numbers
one_line : (line ms ns : List ℕ) → Written line ms → Written line ns → ms ≡ ns
one_line line ms ns v w = one_reading ms ns (sym v.0 ∙ w.0) v.1 w.1

-- verdicts that print and keep the same
abbrev Alike : Verdict → Verdict → Type 0
Alike v u = ((n : ℕ) → row_text n v ≡ row_text n u) × (map keys_of (point_in v) ≡ map keys_of (point_in u))

-- a row that repeats the point of an earlier one gives no point that none gives before it
new_or_old : (ws : List ℕ) (rows : List (List ℕ)) (i : ℕ) (ks : List ℕ) → Gives ws (get_or rows i []) ks → ((j : ℕ) → j < i → Gives ws (get_or rows j []) ks → ⊥) → Becomes ws rows i Repeated → ⊥
new_or_old ws rows i ks g n r = n r.2.0 r.2.1 (subst (Gives ws (get_or rows r.2.0 [])) (one_line (get_or rows i []) r.0 ks r.1.0 g.0) r.2.2)

alike : (ws : List ℕ) (rows : List (List ℕ)) (i : ℕ) (v u : Verdict) → Becomes ws rows i v → Becomes ws rows i u → Alike v u
alike ws rows i (Kept p) (Kept q) b d = ((λ n. refl), ap (λ (ks : List ℕ). ks ∷ []) (one_line (get_or rows i []) (keys_of p) (keys_of q) b.0.0 d.0.0))
alike ws rows i (Kept p) NoPoint b d = absurd (d (keys_of p) b.0)
alike ws rows i (Kept p) Repeated b d = absurd (new_or_old ws rows i (keys_of p) b.0 b.1 d)
alike ws rows i NoPoint (Kept q) b d = absurd (b (keys_of q) d.0)
alike ws rows i NoPoint NoPoint b d = ((λ n. refl), refl)
alike ws rows i NoPoint Repeated b d = absurd (b d.0 d.1)
alike ws rows i Repeated (Kept q) b d = absurd (new_or_old ws rows i (keys_of q) d.0 d.1 b)
alike ws rows i Repeated NoPoint b d = absurd (d b.0 b.1)
alike ws rows i Repeated Repeated b d = ((λ n. refl), refl)

same_text : (n : ℕ) (vs us : List Verdict) → length vs ≡ length us → ((i : ℕ) → i < length vs → Alike (get_or vs i NoPoint) (get_or us i NoPoint)) → rows_text n vs ≡ rows_text n us
same_text n [] [] e h = refl
same_text n [] (u ∷ us) e h = absurd (omega arith)
same_text n (v ∷ vs) [] e h = absurd (omega arith)
same_text n (v ∷ vs) (u ∷ us) e h = ap₂ (λ (xs ys : List ℕ). xs ++ ys) ((h 0 (omega arith)).0 n) (same_text (suc n) vs us (omega arith) (λ i l. h (suc i) (omega arith)))

same_points : (vs us : List Verdict) → length vs ≡ length us → ((i : ℕ) → i < length vs → Alike (get_or vs i NoPoint) (get_or us i NoPoint)) → map keys_of (points_of vs) ≡ map keys_of (points_of us)
same_points [] [] e h = refl
same_points [] (u ∷ us) e h = absurd (omega arith)
same_points (v ∷ vs) [] e h = absurd (omega arith)
same_points (v ∷ vs) (u ∷ us) e h = parted v vs ∙ ap₂ (λ (xs ys : List (List ℕ)). xs ++ ys) (h 0 (omega arith)).1 (same_points vs us (omega arith) (λ i l. h (suc i) (omega arith))) ∙ sym (parted u us)
  where
    parted : (v : Verdict) (vs : List Verdict) → map keys_of (points_of (v ∷ vs)) ≡ map keys_of (point_in v) ++ map keys_of (points_of vs)
    parted v vs = ap (map keys_of) (points_step v vs) ∙ map-append keys_of (point_in v) (points_of vs)

same_printed : (text out other : List ℕ) → Sheet text out → Sheet text other → other ≡ out
same_printed text out other s t =
    let first = get_or (lines text) 0 [] in
    let rows = drop 1 (lines text) in
    let heads = one_line first (s.capacity ∷ s.widths) (t.capacity ∷ t.widths) s.headed.0 t.headed.0 in
    let ec : s.capacity ≡ t.capacity = cc in
    let ew : s.widths ≡ t.widths = cc in
    let judged = subst (λ ws. Judged ws rows t.verdicts) (sym ew) t.judged in
    let long : length s.verdicts ≡ length t.verdicts = omega (arith, s.judged.0, t.judged.0) in
    let each = λ (i : ℕ) (l : i < length s.verdicts). alike s.widths rows i (get_or s.verdicts i NoPoint) (get_or t.verdicts i NoPoint) (s.judged.1 i (omega (arith, s.judged.0))) (judged.1 i (omega (arith, s.judged.0))) in
    let points = same_points s.verdicts t.verdicts long each in
    let count : length (points_of s.verdicts) ≡ length (points_of t.verdicts) = sym (length-map (points_of s.verdicts) keys_of) ∙ ap length points ∙ length-map (points_of t.verdicts) keys_of in
    let measured : figures s.widths s.capacity (map keys_of (points_of s.verdicts)) ≡ figures t.widths t.capacity (map keys_of (points_of t.verdicts)) = λ i. figures (ew i) (ec i) (points i) in
    t.printed ∙ sym (ap₂ (λ (xs ys : List ℕ). xs ++ ys) (same_text 2 s.verdicts t.verdicts long each) (ap₂ figures_text count measured)) ∙ sym s.printed

pub one_answer : (text out other : List ℕ) → Answered text out → Answered text other → other ≡ out
one_answer text out other (inl a) (inl b) = b.1 ∙ sym a.1
one_answer text out other (inl a) (inr b) = absurd (a.0 b.capacity b.widths b.headed)
one_answer text out other (inr a) (inl b) = absurd (b.0 a.capacity a.widths a.headed)
one_answer text out other (inr a) (inr b) = same_printed text out other a b
