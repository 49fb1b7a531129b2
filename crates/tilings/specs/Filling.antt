-- What the steps of building an image leave in its arrays of ends.
use Rattle.std.specs.Prelude.{◌≡◌, ℕ, ◌<◌, ◌≤◌, List, length, take, Some, None, Option, slice_index_or}
use Rattle.boxes.specs.declared.grid_box.GridBox.{GridBox}
use Rattle.images.specs.declared.held_image.HeldImage.{HeldImage}
use Rattle.images.specs.Directory.{inner, intervals}
use Rattle.images.specs.Memory.{scales_in}
use Rattle.images.specs.Parts.{parted, total}
use Rattle.tilings.specs.declared.scales.Scales.{Scales}

-- the tile's lower end; there is none exactly where it is not above the box's own
abbrev pub InnerEnd : ℕ → ℕ → Option ℕ → Type 0
InnerEnd own low None = low ≤ own
InnerEnd own low (Some x) = (own < low) × (x ≡ low)

-- the array begins with the scales of k keys side by side, and the counts say how long each is; there are none exactly where the scales have more numbers than it has places
abbrev pub Laid : ℕ → List (List ℕ) → List ℕ → Option (List ℕ) → Type 0
Laid k es xs None = length xs < inner es
Laid k es xs (Some cs) = (length (take k cs) ≡ k) × (total (take k cs) ≤ length xs) × (parted (take k cs) xs ≡ es)

-- s has the scales of k keys; there is no answer exactly where they have more numbers than the largest image has places
abbrev pub ScalesMade : ℕ → List (List ℕ) → Option Scales → Type 0
ScalesMade k es None = 250 < inner es
ScalesMade k es (Some s) = (length s.ends ≡ 250) × (length (take k s.counts) ≡ k) × (total (take k s.counts) ≤ 250) × (parted (take k s.counts) s.ends ≡ es)

-- an image with room for so many ends and cells may be, and has room for these scales
abbrev pub Fits : ℕ → ℕ → List (List ℕ) → Type 0
Fits E C es = (E ≤ 250) × (C ≤ 1024) × (inner es ≤ E) × (intervals es ≤ C)

-- d has the scales, for the keys of g, and its cells name nothing; there is none exactly where they do not fit
abbrev pub ScaledFor : {E C : ℕ} → GridBox → List (List ℕ) → Option (HeldImage E C) → Type 0
ScaledFor {E} {C} g es None = Fits E C es → ⊥
ScaledFor {E} {C} g es (Some d) = Fits E C es × (d.keys ≡ g.space.now.keys) × (scales_in d ≡ es) × (length d.cells ≡ C)
    × ((m : ℕ) → slice_index_or d.cells m (record { page = 0; level = 0 }) ≡ record { page = 0; level = 0 })
