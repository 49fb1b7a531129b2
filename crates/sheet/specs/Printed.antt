-- What is printed of verdicts and of figures.
use Rattle.std.specs.Prelude.{ℕ, suc, Bool, true, false, List, [], ◌∷◌, ◌++◌, codes, decimal}
use Rattle.boxes.specs.declared.figures.Figures.{Figures}
use Rattle.boxes.specs.declared.keys.Keys.{Keys}
use Rattle.sheet.specs.declared.verdict.Verdict.{Verdict}
use Rattle.sheet.specs.declared.verdict.Verdict.TheVariants.{Kept, NoPoint, Repeated}

-- the first line writes no capacity and widths
abbrev pub headless_text : List ℕ
headless_text = codes "line 1: ?\n"

-- line n is turned away by the number k
abbrev pub away_line : ℕ → ℕ → List ℕ
away_line n k = codes "line " ++ (decimal n ++ (codes ": r" ++ (decimal k ++ codes "\n")))

-- by 4 if it writes no point, by 6 if an earlier line writes the same
abbrev pub row_text : ℕ → Verdict → List ℕ
row_text n (Kept p) = []
row_text n NoPoint = away_line n 4
row_text n Repeated = away_line n 6

-- the same of the rows from line n on
abbrev pub rows_text : ℕ → List Verdict → List ℕ
rows_text n [] = []
rows_text n (v ∷ vs) = row_text n v ++ rows_text (suc n) vs

-- the points that are kept
abbrev pub points_of : List Verdict → List Keys
points_of [] = []
points_of (Kept p ∷ vs) = p ∷ points_of vs
points_of (NoPoint ∷ vs) = points_of vs
points_of (Repeated ∷ vs) = points_of vs

-- so many readings, boxes and pages
abbrev pub boxes_text : ℕ → Figures → List ℕ
boxes_text n f =
    codes "readings " ++ (decimal n ++ (codes "\nleaf boxes " ++ (decimal f.leaf_boxes ++ (codes "\ndirectory boxes " ++ (decimal f.directory_boxes ++ (codes "\npages " ++ (decimal f.pages ++ codes "\n")))))))

abbrev pub fits_text : Bool → List ℕ
fits_text true = codes "root fits"
fits_text false = codes "root does not fit"

-- the root
abbrev pub root_text : Figures → List ℕ
root_text f = codes "root boundaries " ++ (decimal f.root_boundaries ++ (codes "\nroot cells " ++ (decimal f.root_cells ++ (codes "\n" ++ (fits_text f.root_fits ++ codes "\n")))))

-- the lines for the figures of n readings
abbrev pub figures_text : ℕ → Figures → List ℕ
figures_text n f = boxes_text n f ++ root_text f
