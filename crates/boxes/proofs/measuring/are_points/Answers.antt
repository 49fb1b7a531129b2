use Rattle.std.proofs.Common.{ℕ, zero, suc, ◌<◌, ◌↔◌, IsTrue, Bool, true, false, ◌∷◌, List, [], length, MatchBool, refl, arith, rules, tests}
use Rattle.std.specs.List.{AllByRecursion, AllWithin, HoldsAt}
use Rattle.std.proofs.ByRecursion.{all_from_every}
use Rattle.std.proofs.lemmas.Bool.{false≢true}
use Rattle.std.proofs.lemmas.Iterator.{cases_from_all, YieldsList-from_slice}
use Rattle.boxes.specs.KeyLists.{keys_of}
use Rattle.boxes.specs.Points.{Point}
use Rattle.boxes.specs.Spaces.{widths_of}
use Rattle.boxes.proofs.measuring.are_points.Goals as goal

fails_at : {X : Type 0} (P : X → Type 0) (xs : List X) (k : ℕ) → k < length xs → HoldsAt (λ x. P x → ⊥) xs k → AllByRecursion P xs → ⊥
fails_at P [] k l h a = omega arith
fails_at P (x ∷ xs) zero l h a = h x a.0
fails_at P (x ∷ xs) (suc k) l h a = fails_at P xs k (omega arith) h a.1

all_or_not : {X : Type 0} (P : X → Type 0) (xs : List X) (r : Bool) → MatchBool r (AllWithin P xs 0 (length xs)) ((k : ℕ) × (k < length xs) × HoldsAt (λ x. P x → ⊥) xs k) → IsTrue r ↔ AllByRecursion P xs
all_or_not P xs true h = (λ _. all_from_every P xs h, λ _. refl)
all_or_not P xs false h = (λ e. absurd (false≢true e), λ a. absurd (fails_at P xs h.0 h.1 h.2 a))

pub returns : goal.returns
returns c =
    let ws = widths_of c.args.space.now in
    all_or_not (λ p. Point ws (keys_of p)) c.args.points.now c.all.result
    (cases_from_all _ _ c.all.result (λ p. Point ws (keys_of p)) (λ p. Point ws (keys_of p) → ⊥) c.all.ensures.ran (YieldsList-from_slice c.args.points.now cc) (λ x q k. search (rules, tests)) (λ x q k. search (rules, tests)))
