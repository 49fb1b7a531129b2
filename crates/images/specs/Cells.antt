-- The cells of an image: positions in each key, cell numbers and corners. In all of it es are the ends of each key.
use Rattle.std.specs.Prelude.{◌≡◌, ℕ, zero, suc, ◌/◌, ◌%◌, ◌<◌, List, [], ◌∷◌, length, slice_index, slice_index_or}
use Rattle.images.specs.Directory.{position, intervals}

-- the numbers rise, from above l on
abbrev pub Up : ℕ → List ℕ → Type 0
Up l [] = Unit {0}
Up l (e ∷ es) = (l < e) × Up e es

-- in each key the ends rise from above the lower end
abbrev pub AllUp : List ℕ → List (List ℕ) → Type 0
AllUp ls es = (i : ℕ) → i < length es → Up (slice_index ls i) (slice_index_or es i [])

-- the points have the same position in each key
abbrev pub SamePlaces : List (List ℕ) → List ℕ → List ℕ → Type 0
SamePlaces es ps qs = (i : ℕ) → i < length es → position (slice_index ps i) (slice_index_or es i []) ≡ position (slice_index qs i) (slice_index_or es i [])

-- the lower end of interval j, of a key that begins at l
abbrev pub start : ℕ → List ℕ → ℕ → ℕ
start l es j = slice_index (l ∷ es) j

-- the number of cell n's interval in key i
abbrev pub digit : List (List ℕ) → ℕ → ℕ → ℕ
digit [] i n = 0
digit (e ∷ es) zero n = n / intervals es
digit (e ∷ es) (suc i) n = digit es i (n % intervals es)

-- how far apart in number are cells that are neighbours in key i
abbrev pub stride : List (List ℕ) → ℕ → ℕ
stride [] i = 1
stride (e ∷ es) zero = intervals es
stride (e ∷ es) (suc i) = stride es i

-- the lowest corner of cell n, in a box with the lower ends ls
abbrev pub corner : List ℕ → List (List ℕ) → ℕ → List ℕ
corner ls [] n = []
corner [] (e ∷ es) n = []
corner (l ∷ ls) (e ∷ es) n = start l e (n / intervals es) ∷ corner ls es (n % intervals es)
