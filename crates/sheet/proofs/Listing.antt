-- What is made of the verdicts one after another.
use Rattle.std.proofs.Common.{◌≡◌, ℕ, suc, ◌+◌, ◌<◌, ◌≤◌, List, [], ◌∷◌, ◌++◌, length, get_or, drop, sym, refl, ap, ◌∙◌, subst, inl, inr, arith}
use Rattle.std.proofs.lemmas.List.{length_push, get_or_at, get_or_append_left}
use Rattle.std.proofs.lemmas.Bool.{cases_lt}
use Rattle.std.specs.List.{AllByRecursion, filter_map}
use Rattle.boxes.specs.declared.keys.Keys.{Keys}
use Rattle.boxes.specs.declared.space.Space.{Space}
use Rattle.boxes.specs.KeyLists.{keys_of}
use Rattle.boxes.specs.Points.{Point}
use Rattle.numbers.proofs.Wording.{rest_first}
use Rattle.sheet.specs.declared.verdict.Verdict.{Verdict}
use Rattle.sheet.specs.declared.verdict.Verdict.TheVariants.{Kept, NoPoint, Repeated}
use Rattle.sheet.specs.Printed.{points_of}
use Rattle.sheet.specs.Rows.{Becomes, RowRead}
use Rattle.sheet.specs.Verdicts.{point_of}

-- the points
abbrev pub point_in : Verdict → List Keys
point_in (Kept p) = p ∷ []
point_in NoPoint = []
point_in Repeated = []

pub points_step : (v : Verdict) (vs : List Verdict) → points_of (v ∷ vs) ≡ point_in v ++ points_of vs
points_step (Kept p) vs = refl
points_step NoPoint vs = refl
points_step Repeated vs = refl

pub points_are : (vs : List Verdict) → filter_map point_of vs ≡ points_of vs
points_are [] = refl
points_are (Kept p ∷ vs) = ap (λ ps. p ∷ ps) (points_are vs)
points_are (NoPoint ∷ vs) = points_are vs
points_are (Repeated ∷ vs) = points_are vs

-- one row more is read
pub rows_more : (s : Space) (rows : List (List ℕ)) (vs us : List Verdict) (v : Verdict) (row : List ℕ) (rest : List (List ℕ)) → drop (length vs) rows ≡ row ∷ rest → ((i : ℕ) → i < length vs → RowRead s (get_or rows i []) (get_or vs i NoPoint))
    → RowRead s row v → us ≡ vs ++ v ∷ [] → (drop (length us) rows ≡ rest) × (length us ≤ length rows) × ((i : ℕ) → i < length us → RowRead s (get_or rows i []) (get_or us i NoPoint))
rows_more s rows vs us v row rest e old new eu =
    let first = rest_first rows (length vs) row rest [] e in
    let long : length us ≡ length vs + 1 = ap length eu ∙ length_push vs v in (
      ap (λ n. drop n rows) long ∙ first.2,
      omega (arith, first.0),
      λ i h. elim (cases_lt i (length vs)) [
        | inl l ↦ subst (RowRead s (get_or rows i [])) (sym (ap (λ zs. get_or zs i NoPoint) eu ∙ get_or_append_left vs (v ∷ []) NoPoint i l)) (old i l)
        | inr g ↦
            let q : i ≡ length vs = omega arith in
            let at : get_or us i NoPoint ≡ v = ap (λ zs. get_or zs i NoPoint) eu ∙ ap (λ j. get_or (vs ++ v ∷ []) j NoPoint) q ∙ get_or_at vs v [] NoPoint (length vs) refl in
            subst (RowRead s (get_or rows i [])) (sym at) (subst (λ us. RowRead s us v) (sym (ap (λ j. get_or rows j []) q ∙ first.1)) new)
      ],
    )

-- the points kept are points
pub kept_points : (ws : List ℕ) (rows : List (List ℕ)) (m : ℕ) (vs : List Verdict) → ((i : ℕ) → i < length vs → Becomes ws rows (m + i) (get_or vs i NoPoint)) → AllByRecursion (λ p. Point ws (keys_of p)) (points_of vs)
kept_points ws rows m [] h = tt
kept_points ws rows m (v ∷ vs) h =
    go v (h 0 (omega arith)) (kept_points ws rows (suc m) vs (λ i k. subst (λ j. Becomes ws rows j (get_or vs i NoPoint)) (omega arith) (h (suc i) (omega arith))))
  where
    go : (v : Verdict) → Becomes ws rows (m + 0) v → AllByRecursion (λ p. Point ws (keys_of p)) (points_of vs) → AllByRecursion (λ p. Point ws (keys_of p)) (points_of (v ∷ vs))
    go (Kept p) b rest = (b.0.1, rest)
    go NoPoint b rest = rest
    go Repeated b rest = rest
