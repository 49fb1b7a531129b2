-- What a set of records determines: its boxes, whether its root fits, and the pages it needs.
-- In all of it m is the meaning of the kind, and held is the list of the records held; their order is no matter.
use Rattle.std.specs.Prelude.{ℕ, ◌+◌, Bool, List, [], map, length, Some, None, Option}
use Rattle.boxes.specs.Cuts.{Path}
use Rattle.boxes.specs.Directories.{limits, ends}
use Rattle.boxes.specs.Laws.{LeafBox, leaf_list, DirectoryBox, directory_list}
use Rattle.kinds.specs.Meaning.{Meaning}

-- the keys, or none for what is no record
abbrev pub keys_or : Option (List ℕ) → List ℕ
keys_or None = []
keys_or (Some ks) = ks

-- the keys of a record
abbrev pub keys_of : Meaning → List ℕ → List ℕ
keys_of m r = keys_or (m.read r)

-- the points of the records
abbrev pub points : Meaning → List (List ℕ) → List (List ℕ)
points m held = map (keys_of m) held

-- b is a leaf box of the records: at most as many of them as a bucket takes lie in it, and it is the whole space or a half of a box with more
abbrev pub IsLeaf : Meaning → List (List ℕ) → Path → Type 0
IsLeaf m held b = LeafBox m.widths m.halvings m.capacity (points m held) b

-- b is a directory box of the records: it keeps both limits, and is the whole space or a half of a box that does not
abbrev pub IsDirectory : Meaning → List (List ℕ) → Path → Type 0
IsDirectory m held b = DirectoryBox m.widths m.halvings m.capacity (points m held) b

-- the lists of these boxes
abbrev pub leaf_boxes : Meaning → List (List ℕ) → List Path
leaf_boxes m held = leaf_list m.widths m.halvings m.capacity (points m held)

abbrev pub directory_boxes : Meaning → List (List ℕ) → List Path
directory_boxes m held = directory_list m.widths m.halvings m.capacity (points m held)

-- the root takes the directory boxes: at most 250 inner boundaries and 1,024 cells
abbrev pub root_fits : Meaning → List (List ℕ) → Bool
root_fits m held = limits 250 1024 (length m.widths) (ends m.widths m.halvings (directory_boxes m held))

-- eight pages for the root, one for each directory box and one for each leaf box
abbrev pub pages_needed : Meaning → List (List ℕ) → ℕ
pages_needed m held = 8 + length (directory_boxes m held) + length (leaf_boxes m held)
