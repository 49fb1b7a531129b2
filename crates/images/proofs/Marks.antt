-- The ends that the cells use, marked cell by cell.
use Rattle.std.proofs.Common.{◌≡◌, ℕ, zero, suc, ◌+◌, ◌<◌, Bool, true, false, List, [], length, get_or, set, replicate, Decides, sym, refl, ap, ◌∙◌, subst, inl, inr, arith, get_or-set_other, get_or-set_same}
use Rattle.std.proofs.lemmas.Bool.{cases_eq, false≢true}
use Rattle.boxes.specs.declared.grid_box.GridBox.{GridBox}
use Rattle.images.specs.declared.held_image.HeldImage.{HeldImage}
use Rattle.images.specs.Cells.{digit}
use Rattle.images.specs.Checking.{Begins}
use Rattle.images.specs.Memory.{scales_in}

-- some cell before n begins in key i at end j, and its box too
abbrev pub UsedBefore : {E C : ℕ} → GridBox → HeldImage E C → ℕ → ℕ → ℕ → Type 0
UsedBefore g d i n j = (m : ℕ) × (m < n) × Begins g d i j m

-- the marks tell which ends the cells before n use
abbrev pub Marked : {E C : ℕ} → GridBox → HeldImage E C → ℕ → ℕ → List Bool → Type 0
Marked g d i n used = (j : ℕ) → j < length (get_or (scales_in d) i []) → Decides (get_or used j false) (UsedBefore g d i n j)

none_marked : (n j : ℕ) → get_or (replicate n false) j false ≡ false
none_marked zero j = refl
none_marked (suc n) zero = refl
none_marked (suc n) (suc j) = none_marked n j

module _ {E C : ℕ} (g : GridBox) (d : HeldImage E C) (i : ℕ) where
  pub marked_none : (n : ℕ) → Marked g d i 0 (replicate n false)
  marked_none n j l = ((λ e. absurd (false≢true (sym (none_marked n j) ∙ e))), (λ u. absurd (omega (arith, u.1))))

  -- a cell that begins at no end, or whose box does not
  pub marked_same : (n : ℕ) (used : List Bool) → Marked g d i n used → ((j : ℕ) → Begins g d i j n → ⊥) → Marked g d i (n + 1) used
  marked_same n used w none j l = (
    (λ e. let u = (w j l).0 e in (u.0, omega (arith, u.1), u.2)),
    (λ u. elim (cases_eq u.0 n) [
      | inl e ↦ absurd (none j (subst (λ k. Begins g d i j k) e u.2))
      | inr e ↦ (w j l).1 (u.0, omega (arith, u.1, e), u.2)
    ]),
  )

  -- one that begins at end k with its box
  pub marked_more : (n k : ℕ) (used : List Bool) → k < length used → Begins g d i k n → Marked g d i n used → Marked g d i (n + 1) (set used k true)
  marked_more n k used h b w j l = elim (cases_eq j k) [
    | inl e ↦ (
      (λ _. (n, omega arith, subst (λ z. Begins g d i z n) (sym e) b)),
      (λ _. ap (λ z. get_or (set used k true) z false) e ∙ get_or-set_same used k true false h),
    )
    | inr e ↦
        let same : get_or (set used k true) j false ≡ get_or used j false = get_or-set_other used k j true false e in (
          (λ t. let u = (w j l).0 (sym same ∙ t) in (u.0, omega (arith, u.1), u.2)),
          (λ u. same ∙ elim (cases_eq u.0 n) [
            | inl z ↦ absurd (e (let x : suc j ≡ suc k = sym (subst (λ q. digit (scales_in d) i q ≡ suc j) z u.2.0) ∙ b.0 in omega arith))
            | inr z ↦ (w j l).1 (u.0, omega (arith, u.1, z), u.2)
          ]),
        )
  ]
