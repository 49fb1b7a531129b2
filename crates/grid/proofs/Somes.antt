-- What is not none is some; and equal answers are equal inside.
use Rattle.std.proofs.Common.{◌≡◌, ℕ, Some, None, Ok, Err, Option, Result, refl, arith}
use Rattle.std.specs.Option.{IsSome}
use Rattle.promise.specs.declared.refusal.Refusal.{Refusal}

pub is_some : {A : Type 0} (r : Option A) → (r ≡ None → ⊥) → IsSome r
is_some None w = absurd (w refl)
is_some (Some x) w = refl

pub same_answer : {A : Type 0} (x y : A) → ◌≡◌ {A = Result A Refusal} (Ok x) (Ok y) → x ≡ y
same_answer x y e = cc

pub same_refusal : {A : Type 0} (x y : Refusal) → ◌≡◌ {A = Result A Refusal} (Err x) (Err y) → x ≡ y
same_refusal x y e = cc

pub not_refused : {A : Type 0} (x : A) (e : Refusal) → ◌≡◌ {A = Result A Refusal} (Err e) (Ok x) → ⊥
not_refused x e q = absurd (let z : ◌≡◌ {A = ℕ} 0 1 = cc in omega arith)
