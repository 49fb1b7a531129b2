-- The lower ends of a box in each key, as lists.
use Rattle.std.specs.Prelude.{◌≡◌, ℕ, ◌<◌, true, false, List, [], map, length, Some, None, Option, slice_index_or}
use Rattle.boxes.specs.declared.scales.Scales.{Scales}
use Rattle.boxes.specs.Directories.{limits}
use Rattle.boxes.specs.RisingEnds.{ends_of}
use Rattle.boxes.specs.Rising.{insert_all}

-- the lower ends in key i, rising
abbrev pub scale : Scales → ℕ → List ℕ
scale e i = slice_index_or (map ends_of e.ends) i []

-- the lower ends of both in key i
abbrev pub both_scales : Scales → Scales → ℕ → List ℕ
both_scales a b i = insert_all (scale b i) (scale a i)

-- both together in the first k keys; none where there is no room for the ends in some key
abbrev pub ScalesJoined : ℕ → Scales → Scales → Option Scales → Type 0
ScalesJoined k a b (Some e) = (i : ℕ) → i < k → scale e i ≡ both_scales a b i
ScalesJoined k a b None = (i : ℕ) × (i < k) × (61 < length (both_scales a b i))

-- the scales of both halves together, where both have some and the box keeps the limits of a directory box
abbrev pub HalvesJoined : ℕ → Option Scales → Option Scales → Option Scales → Type 0
HalvesJoined k None b r = r ≡ None
HalvesJoined k (Some a) None r = r ≡ None
HalvesJoined k (Some a) (Some b) None = limits 60 80 k (λ i. length (both_scales a b i)) ≡ false
HalvesJoined k (Some a) (Some b) (Some e) = (limits 60 80 k (λ i. length (both_scales a b i)) ≡ true) × ((i : ℕ) → i < k → scale e i ≡ both_scales a b i)
