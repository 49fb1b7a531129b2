-- How large images are.
use Rattle.std.specs.Prelude.{◌≡◌, ℕ, ◌≤◌, List, length, Some, None, Option}
use Rattle.images.specs.declared.image_size.ImageSize.{ImageSize}
use Rattle.images.specs.Parts.{total, product}

-- the numbers of inner boundaries and cells of an image with so many ends in each key; none exactly for more than four keys or 250 ends
abbrev pub SizeOf : List ℕ → Option ImageSize → Type 0
SizeOf cs None = (length cs ≤ 4) × (total cs ≤ 250) → ⊥
SizeOf cs (Some s) = (length cs ≤ 4) × (total cs ≤ 250) × (s.boundaries ≡ total cs) × (s.cells ≡ product cs)
