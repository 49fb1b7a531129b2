-- Images that are lawful in a box, and those that were read.
use Rattle.std.proofs.Common.{◌≡◌, ℕ, ◌≤◌, Bool, true, false, List, Some, None, Option, length, refl, sym, ◌∙◌, subst, ap₂, arith}
use Rattle.std.specs.Bool.{then_some}
use Rattle.boxes.specs.Cuts.{Path}
use Rattle.images.specs.Directory.{Image, Lawful, layout, intervals}
use Rattle.images.specs.Memory.{image_of, scales_in, tile_in}
use Rattle.images.specs.declared.held_image.HeldImage.{HeldImage}
use Rattle.images.proofs.Layouts.{layout_same}
use Rattle.images.proofs.Memory.{keys_in}
use Rattle.images.proofs.Scales.{length_listed}
use Rattle.image_bytes.specs.Reading.{Sound}

-- an answer that comes where a test says so
pub answered : {A : Type 0} (P : Option A → Type 0) (test : Bool) (x : A) → (test ≡ true → P (Some x)) → (test ≡ false → P None) → P (then_some test x)
answered P true x given denied = given refl
answered P false x given denied = denied refl

module _ (ws ord : List ℕ) (b : Path) (n most_inner most_cells k level size m₀ m₁ : ℕ) (bs : List ℕ)
    (few : k ≤ 4) (many : length ws ≡ k) (deep : length b ≡ level) (long : length bs ≡ size) where
  pub sized : (img : Image) → layout (length bs) m₀ m₁ level img ≡ layout size m₀ m₁ (length b) img
  sized img = ap₂ (λ s l. layout s m₀ m₁ l img) long (sym deep)

  sound_of : (img : Image) → Lawful ws ord b n most_inner most_cells img → Sound k most_inner most_cells img
  sound_of img l = record {
    scales = l.scales ∙ many;
    few_inner = l.few_inner;
    few_cells = l.few_cells;
    all_cells = l.all_cells;
    rising = λ i h. l.rising i (omega (arith, l.scales));
  }

  -- where no sound image was read, there is no lawful one
  pub none_read : ((img : Image) → Sound k most_inner most_cells img → bs ≡ layout (length bs) m₀ m₁ level img → ⊥)
      → (img : Image) → Lawful ws ord b n most_inner most_cells img → bs ≡ layout size m₀ m₁ (length b) img → ⊥
  none_read none img l laid = none img (sound_of img l) (laid ∙ sym (sized img))

  -- where the one that was read is not lawful, none is
  pub other_read : (d : HeldImage most_inner most_cells) → bs ≡ layout (length bs) m₀ m₁ level (image_of d) → (Lawful ws ord b n most_inner most_cells (image_of d) → ⊥)
      → (img : Image) → Lawful ws ord b n most_inner most_cells img → bs ≡ layout size m₀ m₁ (length b) img → ⊥
  other_read d read unlawful img l laid =
      let same = layout_same size m₀ m₁ (length b) (length b) (image_of d) img (omega (arith, keys_in d, d.few)) (length_listed (intervals (scales_in d)) (tile_in d)) l.all_cells
      (sym (read ∙ sized (image_of d)) ∙ laid) in
      unlawful (subst (Lawful ws ord b n most_inner most_cells) (sym same.0) l)
