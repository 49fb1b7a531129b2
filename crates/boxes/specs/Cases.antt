-- Worked figures.
use Rattle.std.specs.Prelude.{◌≡◌, ℕ, zero, suc, Bool, true, false, List, [], ◌∷◌, map, length, slice_index_or}
use Rattle.boxes.specs.declared.figures.Figures.{Figures}
use Rattle.boxes.specs.Cuts.{Path}
use Rattle.boxes.specs.Directories.{cells, ends}
use Rattle.boxes.specs.Figures.{figures}
use Rattle.boxes.specs.Leaves.{leaves, count}
use Rattle.boxes.specs.Order.{order}
use Rattle.boxes.specs.Points.{path}

-- leaf boxes, directory boxes, pages; boundaries and cells of the root, and whether it fits
abbrev pub fig : ℕ → ℕ → ℕ → ℕ → ℕ → Bool → Figures
fig l d p b c f = record { leaf_boxes = l; directory_boxes = d; pages = p; root_boundaries = b; root_cells = c; root_fits = f }

-- two keys of two bits, two points in a leaf box
abbrev T : List ℕ
T = 2 ∷ 2 ∷ []

-- one key of eight bits, one point in a leaf box
abbrev U : List ℕ
U = 8 ∷ []

-- keys of 18, 5 and 14 bits
abbrev D : List ℕ
D = 18 ∷ 5 ∷ 14 ∷ []

-- three keys of twenty bits, one point in a leaf box
abbrev X : List ℕ
X = 20 ∷ 20 ∷ 20 ∷ []

abbrev p00 : List ℕ
p00 = 0 ∷ 0 ∷ []

abbrev p33 : List ℕ
p33 = 3 ∷ 3 ∷ []

abbrev p10 : List ℕ
p10 = 1 ∷ 0 ∷ []

abbrev p01 : List ℕ
p01 = 0 ∷ 1 ∷ []

-- n points of one key, from i on
abbrev upto : ℕ → ℕ → List (List ℕ)
upto zero i = []
upto (suc n) i = (i ∷ []) ∷ upto n (suc i)

-- the four points of case 4, and their leaf boxes
abbrev ps4 : List (List ℕ)
ps4 = p01 ∷ p10 ∷ p33 ∷ p00 ∷ []

abbrev ls4 : List Path
ls4 = leaves 4 2 (map (path T (order T)) ps4)

pub record Cases : Type 0 where
  pub case1 : figures T 2 [] ≡ fig 1 1 10 0 1 true
  pub case2 : figures T 2 (p33 ∷ p00 ∷ []) ≡ fig 1 1 10 0 1 true
  pub case3 : figures T 2 (p10 ∷ p33 ∷ p00 ∷ []) ≡ fig 2 1 11 0 1 true
  pub case4 : figures T 2 ps4 ≡ fig 4 1 13 0 1 true
  -- the leaf boxes of case 4: their levels, how many points lie in each, and the cells that they make
  pub case4_levels : map length ls4 ≡ 3 ∷ 3 ∷ 2 ∷ 1 ∷ []
  pub case4_points : map (λ b. count b (map (path T (order T)) ps4)) ls4 ≡ 2 ∷ 1 ∷ 0 ∷ 1 ∷ []
  pub case4_cells : cells 2 (ends T (order T) ls4) ≡ 6
  pub case5 : figures T 2 (p01 ∷ p10 ∷ p00 ∷ []) ≡ fig 4 1 13 0 1 true
  pub case6 : figures T 2 (p10 ∷ p00 ∷ []) ≡ fig 1 1 10 0 1 true
  pub case7 : figures U 1 (upto 2 0) ≡ fig 9 1 18 0 1 true
  pub case8 : figures U 1 (upto 57 0) ≡ fig 59 1 68 0 1 true
  pub case9 : figures U 1 (upto 58 0) ≡ fig 62 2 72 1 2 true
  pub case10 : figures X 1 ((0 ∷ 0 ∷ 0 ∷ []) ∷ (0 ∷ 0 ∷ 1 ∷ []) ∷ []) ≡ fig 61 51 120 50 5508 false
  -- key 0 is halved at levels 15 and 33, key 2 at level 16
  pub case11 : slice_index_or (order D) 15 9 ∷ slice_index_or (order D) 16 9 ∷ slice_index_or (order D) 33 9 ∷ [] ≡ 0 ∷ 2 ∷ 0 ∷ []
