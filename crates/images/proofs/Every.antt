-- What `all` says of each element of a list, and of each number of a range, where each call of the closure decides a fact.
use Rattle.std.proofs.Common.{◌≡◌, ℕ, ◌+◌, ◌<◌, Bool, true, false, List, length, get_or, Option, Decides, MatchBool, sym, refl, ◌∙◌, subst, arith}
use Rattle.std.specs.Fn.{Called}
use Rattle.std.specs.Iterator.{YieldsThen}
use Rattle.std.specs.List.{AllWithin, HoldsAt, FoldsTo, range_with_len}
use Rattle.std.specs.Option.{MatchOption}
use denote.Param.Members.{Mut}
use Rattle.std.proofs.lemmas.Bool.{false≢true}
use Rattle.std.proofs.lemmas.Iterator.{YieldsList, cases_from_all}
use Rattle.std.proofs.lemmas.List.FromFn.{get_or-range_with_len, length-range_with_len}

each : {A : Type 0} (P : A → Type 0) (d : A) (r : Bool) (xs : List A) → MatchBool r (AllWithin P xs 0 (length xs)) ((k : ℕ) × (k < length xs) × HoldsAt (λ x. P x → ⊥) xs k)
    → Decides r ((k : ℕ) → k < length xs → P (get_or xs k d))
each P d true xs m = ((λ _ k l. m k d (omega arith) l), (λ _. refl))
each P d false xs m = ((λ e. absurd (false≢true e)), (λ w. absurd (m.2 d (w m.0 m.1))))

module _ {S A B F : Type 0} {steps : S → Option A → S → Type 0} {v : A → B} {g : Mut F (A × Unit {0}) Bool} {s : S} (u : S) (f : F) (r : Bool) (P : B → Type 0)
    (ran : (xs : List A) × (o : Option A) × (j : F) × YieldsThen steps s xs o u × FoldsTo (λ p x q. Called g p (x, tt) true q) f xs j × MatchOption o (r ≡ true) (λ x. (r ≡ false) × ((h : F) × Called g j (x, tt) false h)))
    (call : (x : A) (b : Bool) (q : F) → Called g f (x, tt) b q → (q ≡ f) × Decides b (P (v x))) where
  cases : (all : List B) → YieldsList steps v s all → MatchBool r (AllWithin P all 0 (length all)) ((k : ℕ) × (k < length all) × HoldsAt (λ x. P x → ⊥) all k)
  cases all road = cases_from_all u f r P (λ x. P x → ⊥) ran road
      (λ x q k. let h = call x true q k in (h.0, h.1.0 refl))
      (λ x q k. λ p. false≢true ((call x false q k).1.1 p))

  -- over a list
  pub all_of : (all : List B) → YieldsList steps v s all → (d : B) → Decides r ((k : ℕ) → k < length all → P (get_or all k d))
  all_of all road d = each P d r all (cases all road)

-- over the numbers below n
module _ {S A F : Type 0} {steps : S → Option A → S → Type 0} {v : A → ℕ} {g : Mut F (A × Unit {0}) Bool} {s : S} (u : S) (f : F) (r : Bool) (P : ℕ → Type 0)
    (ran : (xs : List A) × (o : Option A) × (j : F) × YieldsThen steps s xs o u × FoldsTo (λ p x q. Called g p (x, tt) true q) f xs j × MatchOption o (r ≡ true) (λ x. (r ≡ false) × ((h : F) × Called g j (x, tt) false h)))
    (call : (x : A) (b : Bool) (q : F) → Called g f (x, tt) b q → (q ≡ f) × Decides b (P (v x))) where
  pub all_below : (n : ℕ) → YieldsList steps v s (range_with_len 0 n) → Decides r ((k : ℕ) → k < n → P k)
  all_below n road =
      let h = all_of u f r P ran call (range_with_len 0 n) road 0 in
      let long = length-range_with_len 0 n in
      let at : (k : ℕ) → k < n → get_or (range_with_len 0 n) k 0 ≡ k = λ k l. let e : 0 + k ≡ k = omega arith in get_or-range_with_len 0 n k 0 l ∙ e in (
        (λ e k l. subst P (at k l) (h.0 e k (omega arith))),
        (λ w. h.1 (λ k l. let m : k < n = omega arith in subst P (sym (at k m)) (w k m))),
      )
