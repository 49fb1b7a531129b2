-- What a walk over the halves of a box finds in it. The box is b, of level l, in the space s; boxes in it are given as seen from it, by the halves taken from it on.
use Rattle.std.specs.Prelude.{◌≡◌, ℕ, ◌-◌, ◌<◌, ◌≤◌, Bool, true, false, List, [], ◌++◌, map, length, take, Some, None, Option, slice_index}
use Rattle.boxes.specs.declared.keys.Keys.{Keys}
use Rattle.boxes.specs.declared.scales.Scales.{Scales}
use Rattle.boxes.specs.declared.space.Space.{Space}
use Rattle.boxes.specs.declared.survey.Survey.{Survey}
use Rattle.boxes.specs.Cuts.{Path, In}
use Rattle.boxes.specs.Fitting.{fits_from, directories_from}
use Rattle.boxes.specs.KeyLists.{ways_on}
use Rattle.boxes.specs.Leaves.{leaves}
use Rattle.boxes.specs.Points.{lows}
use Rattle.boxes.specs.Scales.{scale}
use Rattle.boxes.specs.Spaces.{widths_of, order_of}

-- the leaf boxes in the box, of the points in it
abbrev pub leaves_in : Space → ℕ → ℕ → List Keys → List Path
leaves_in s l c ps = leaves (s.depth - l) c (ways_on s l ps)

-- the lower ends of boxes in it, in key i
abbrev pub ends_in : Space → Path → List Path → ℕ → List ℕ
ends_in s b bs i = map (λ d. slice_index (lows (widths_of s) (order_of s) (b ++ d)) i) bs

-- do its leaf boxes keep the limits of a directory box?
abbrev pub keeps_in : Space → Path → List Path → Bool
keeps_in s b ls = fits_from (widths_of s) (order_of s) b ls []

-- the directory boxes in it
abbrev pub directories_in : Space → ℕ → Path → List Path → List Path
directories_in s l b ls = directories_from (widths_of s) (order_of s) (s.depth - l) b ls

-- its lower ends in each key, each once, where it keeps the limits
abbrev pub Found : Space → Path → List Path → Option Scales → Type 0
Found s b ls None = keeps_in s b ls ≡ false
Found s b ls (Some e) = (keeps_in s b ls ≡ true) × ((i : ℕ) → i < s.keys → (x : ℕ) → (In x (scale e i) → In x (ends_in s b ls i)) × (In x (ends_in s b ls i) → In x (scale e i)))

pub record Surveyed (s : Space) (l : ℕ) (b : Path) (c : ℕ) (ps : List Keys) (r : Survey) : Type 0 where
  pub leaf_number : r.leaf_boxes ≡ length (leaves_in s l c ps)
  pub directory_number : r.directory_boxes ≡ length (directories_in s l b (leaves_in s l c ps))
  pub lower_ends : Found s b (leaves_in s l c ps) r.scales

-- of a box with the leaf boxes ls: the room begins with the lower ends in key i of its directory boxes, where it has a place for each
abbrev pub Noted : Space → ℕ → Path → List Path → ℕ → List ℕ → Type 0
Noted s l b ls i room = length (directories_in s l b ls) ≤ length room → take (length (directories_in s l b ls)) room ≡ ends_in s b (directories_in s l b ls) i
