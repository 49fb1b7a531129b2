-- Boundaries and cells as a sum and a product, and that these fit.
use Rattle.std.proofs.Common.{◌≡◌, ℕ, zero, suc, ◌+◌, ◌-◌, ◌*◌, ◌^◌, ◌<◌, ◌≤◌, List, length, get_or, take, sum, sum_by, fold, Option, Bor, sym, refl, ap, ◌∙◌, subst, mul_comm, add-one, arith, pow_mono, pow-add}
use Rattle.std.specs.Iterator.{Yields}
use Rattle.std.specs.Iterator.Runs.{EachRunFrom, YieldsRun}
use Rattle.std.proofs.lemmas.Iterator.{YieldsList}
use Rattle.std.proofs.lemmas.Iterator.Consumers.{YieldsList-so_far}
use Rattle.std.proofs.lemmas.Nat.{mul-le}
use Rattle.std.proofs.lemmas.List.{length-map, length-take, take_all}
use Rattle.std.proofs.lemmas.List.Folds.{fold-map}
use Rattle.std.proofs.lemmas.List.Sums.{fold_more, sum_by_more, sum_by-take-le, get_or-le-sum_by}
use Rattle.boxes.specs.Counts.{Countable}
use Rattle.boxes.specs.Directories.{boundaries, cells}

module _ (ns : List ℕ) where
  abbrev at : ℕ → ℕ
  at i = get_or ns i 0

  product_upto : (k : ℕ) → k ≤ length ns → fold (λ a x. a * x) 1 (take k ns) ≡ cells k at
  product_upto zero h = refl
  product_upto (suc k) h =
      ap (λ m. fold (λ a x. a * x) 1 (take m ns)) (sym (add-one k))
      ∙ fold_more (λ a x. a * x) 1 ns k 0 (omega arith) ∙ ap (λ m. m * at k) (product_upto k (omega arith)) ∙ mul_comm (cells k at) (at k)

  sum_upto : (k : ℕ) → k ≤ length ns → sum_by (λ n. n - 1) (take k ns) ≡ boundaries k at
  sum_upto zero h = refl
  sum_upto (suc k) h = omega (arith, ap (λ m. sum_by (λ n. n - 1) (take m ns)) (sym (add-one k)), sum_by_more (λ n. n - 1) ns k 0 (omega arith), sum_upto k (omega arith))

  pub product_is : fold (λ a x. a * x) 1 ns ≡ cells (length ns) at
  product_is = ap (fold (λ a x. a * x) 1) (sym (take_all (length ns) ns (omega arith))) ∙ product_upto (length ns) (omega arith)

  pub sum_is : sum_by (λ n. n - 1) ns ≡ boundaries (length ns) at
  sum_is = ap (sum_by (λ n. n - 1)) (sym (take_all (length ns) ns (omega arith))) ∙ sum_upto (length ns) (omega arith)

  -- numbers that are at most powers of two
  module _ (c : Countable ns) where
    abbrev es : List ℕ
    es = c.0

    powers_more : (k : ℕ) → k < length es → 2 ^ sum (take (k + 1) es) ≡ 2 ^ sum (take k es) * 2 ^ get_or es k 0
    powers_more k h = ap (λ m. 2 ^ m) (sum_by_more (λ e. e) es k 0 h) ∙ pow-add 2 (sum (take k es)) (get_or es k 0)

    cells_below : (k : ℕ) → k ≤ length ns → cells k at ≤ 2 ^ sum (take k es)
    cells_below zero h = omega arith
    cells_below (suc k) h =
        let below = mul-le (cells k at) (at k) (2 ^ sum (take k es)) (2 ^ get_or es k 0) (cells_below k (omega arith)) (c.4 k (omega arith)) in
        omega (arith, below, mul_comm (at k) (cells k at), powers_more k (omega (arith, c.1)), ap (λ m. 2 ^ sum (take m es)) (add-one k))

    cells_small : (k : ℕ) → k ≤ length ns → cells k at ≤ 1152921504606846976
    cells_small k h = omega (arith, cells_below k h, pow_mono {i = sum (take k es)} {j = 60} (omega (arith, c.3, sum_by-take-le (λ e. e) es k)))

    number_small : (i : ℕ) → i < length ns → at i ≤ 1152921504606846976
    number_small i h = omega (arith, c.4 i h, pow_mono {i = get_or es i 0} {j = 60} (omega (arith, c.3, get_or-le-sum_by (λ e. e) es i 0 (omega (arith, c.1)))))

    boundaries_small : (k : ℕ) → k ≤ length ns → boundaries k at ≤ k * 1152921504606846976
    boundaries_small zero h = omega arith
    boundaries_small (suc k) h = omega (arith, boundaries_small k (omega arith), number_small k (omega arith))

    pub sum_fits : sum_by (λ n. n - 1) ns < 18446744073709551616
    sum_fits = omega (arith, sum_is, boundaries_small (length ns) (omega arith), c.1, c.2)

    -- the product of the numbers that an iterator has given so far
    module _ {S : Type 0} {steps : S → Option (Bor ℕ) → S → Type 0} {s : S} (e : YieldsList steps (λ y. y.now) s ns) where
      pub product_fits : EachRunFrom steps s (λ p. fold (λ a x. a * x.now) 1 p.items < 18446744073709551616)
      unfolding YieldsRun
      product_fits = λ p _ from.
          let given = YieldsList-so_far e p.items p.gave.0.0 (subst (λ u. Yields steps u p.items p.gave.0.0) from p.gave.0.1) in
          let few : length p.items ≤ length ns = omega (arith, length-map p.items (λ (y : Bor ℕ). y.now), ap length given, length-take (length p.items) ns) in
          let product = sym (fold-map (λ a x. a * x) (λ (y : Bor ℕ). y.now) 1 p.items) ∙ ap (fold (λ a x. a * x) 1) given ∙ product_upto (length p.items) few in
          omega (arith, product, cells_small (length p.items) few)
