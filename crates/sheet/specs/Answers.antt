-- What the data sheet program prints for a text.
use Rattle.std.specs.Prelude.{◌≡◌, ℕ, ◌⊎◌, List, [], ◌++◌, map, length, drop, slice_index_or}
use Rattle.boxes.specs.Figures.{figures}
use Rattle.boxes.specs.KeyLists.{keys_of}
use Rattle.sheet.specs.declared.verdict.Verdict.{Verdict}
use Rattle.sheet.specs.Lines.{lines}
use Rattle.sheet.specs.Printed.{headless_text, rows_text, points_of, figures_text}
use Rattle.sheet.specs.Rows.{Heads, Judged}

-- the first line writes no capacity and widths
abbrev pub Headless : List ℕ → List ℕ → Type 0
Headless text out = ((c : ℕ) (ws : List ℕ) → Heads (slice_index_or (lines text) 0 []) c ws → ⊥) × (out ≡ headless_text)

-- the first line writes them: the further lines that are turned away are printed, from line 2 on, and then the figures of the points that are kept
pub record Sheet (text out : List ℕ) : Type 0 where
  pub capacity : ℕ
  pub widths : List ℕ
  pub headed : Heads (slice_index_or (lines text) 0 []) capacity widths
  -- one for each further line
  pub verdicts : List Verdict
  pub judged : Judged widths (drop 1 (lines text)) verdicts
  pub printed : out ≡ rows_text 2 verdicts ++ figures_text (length (points_of verdicts)) (figures widths capacity (map keys_of (points_of verdicts)))

-- what is printed for a text
abbrev pub Answered : List ℕ → List ℕ → Type 0
Answered text out = Headless text out ⊎ Sheet text out
