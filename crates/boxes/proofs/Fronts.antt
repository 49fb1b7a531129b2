-- Items at the front of an array.
use Rattle.std.proofs.Common.{◌≡◌, ℕ, ◌-◌, ◌++◌, List, length, drop, replicate, ap, ◌∙◌}
use Rattle.std.proofs.lemmas.List.{drop_at, drop-replicate}

-- what stands behind them
pub rest_is : {X : Type 0} → (items new : List X) (n : ℕ) (x : X) → new ≡ items → drop (length items) (new ++ drop (length items) (replicate n x)) ≡ replicate (n - length items) x
rest_is items new n x e = drop_at new (drop (length items) (replicate n x)) (length items) (ap length e) ∙ drop-replicate (length items) n x
