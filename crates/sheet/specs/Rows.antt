-- What the lines of a data sheet write.
use Rattle.std.specs.Prelude.{◌≡◌, ℕ, suc, ◌<◌, ◌≤◌, List, [], ◌∷◌, length, Some, None, Option, slice_index, slice_index_or}
use Rattle.boxes.specs.declared.keys.Keys.{Keys}
use Rattle.boxes.specs.declared.space.Space.{Space}
use Rattle.boxes.specs.KeyLists.{keys_of}
use Rattle.boxes.specs.Points.{Point}
use Rattle.boxes.specs.Spaces.{widths_of}
use Rattle.boxes.specs.Widths.{Allowed}
use Rattle.numbers.specs.Numbers.{Written}
use Rattle.sheet.specs.declared.first_line.Header.{Header}
use Rattle.sheet.specs.declared.verdict.Verdict.{Verdict}
use Rattle.sheet.specs.declared.verdict.Verdict.TheVariants.{Kept, NoPoint, Repeated}

-- the four numbers behind the first, or one of them is above 32
abbrev pub WidthsRead : List ℕ → Option (List ℕ) → Type 0
WidthsRead ns (Some ws) = (length ws ≡ 4) × ((i : ℕ) → i < 4 → slice_index ws i ≡ slice_index ns (suc i))
WidthsRead ns None = (i : ℕ) × (i < 4) × (32 < slice_index ns (suc i))

-- the line writes a capacity from 1 to 169 and widths that are allowed
abbrev pub Heads : List ℕ → ℕ → List ℕ → Type 0
Heads line c ws = Written line (c ∷ ws) × (1 ≤ c) × (c ≤ 169) × Allowed ws

-- the capacity and the space of such a line; none of any other
abbrev pub HeaderRead : List ℕ → Option Header → Type 0
HeaderRead line (Some h) = Heads line h.capacity (widths_of h.space)
HeaderRead line None = (c : ℕ) (ws : List ℕ) → Heads line c ws → ⊥

-- the row writes the keys ks of a point of the space with the widths ws
abbrev pub Gives : List ℕ → List ℕ → List ℕ → Type 0
Gives ws row ks = Written row ks × Point ws ks

-- the point that the row gives; none if it gives none
abbrev pub PointRead : Space → List ℕ → Option Keys → Type 0
PointRead s row (Some p) = Gives (widths_of s) row (keys_of p)
PointRead s row None = (ks : List ℕ) → Gives (widths_of s) row ks → ⊥

-- the same as a verdict, in which no row repeats another
abbrev pub RowRead : Space → List ℕ → Verdict → Type 0
RowRead s row (Kept p) = PointRead s row (Some p)
RowRead s row NoPoint = PointRead s row None
RowRead s row Repeated = ⊥

-- one for each row
abbrev pub RowsRead : Space → List (List ℕ) → List Verdict → Type 0
RowsRead s rows vs = (length vs ≡ length rows) × ((i : ℕ) → i < length rows → RowRead s (slice_index_or rows i []) (slice_index_or vs i NoPoint))

-- what becomes of row i: a point that no earlier row gives is kept; a row that gives none, or one that an earlier row gives, is turned away
abbrev pub Becomes : List ℕ → List (List ℕ) → ℕ → Verdict → Type 0
Becomes ws rows i (Kept p) = Gives ws (slice_index_or rows i []) (keys_of p) × ((j : ℕ) → j < i → Gives ws (slice_index_or rows j []) (keys_of p) → ⊥)
Becomes ws rows i NoPoint = (ks : List ℕ) → Gives ws (slice_index_or rows i []) ks → ⊥
Becomes ws rows i Repeated = (ks : List ℕ) × Gives ws (slice_index_or rows i []) ks × ((j : ℕ) × (j < i) × Gives ws (slice_index_or rows j []) ks)

-- one verdict for each row
abbrev pub Judged : List ℕ → List (List ℕ) → List Verdict → Type 0
Judged ws rows vs = (length vs ≡ length rows) × ((i : ℕ) → i < length rows → Becomes ws rows i (slice_index_or vs i NoPoint))
