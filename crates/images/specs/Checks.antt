-- The rules of an image as a loop over cells and keys can check them: each cell is compared with its neighbours alone.
use Rattle.std.specs.Prelude.{◌≡◌, ℕ, suc, ◌+◌, ◌-◌, ◌%◌, ◌<◌, ◌≤◌, List, [], length, slice_index, slice_index_or}
use Rattle.boxes.specs.Cuts.{Path}
use Rattle.boxes.specs.Points.{lows}
use Rattle.boxes.specs.Space.{span}
use Rattle.images.specs.Directory.{Image, Rising, inner, intervals, named_in}
use Rattle.images.specs.Cells.{start, digit, stride}

-- x less its remainder: the lower end of the box of span s around x
abbrev pub block : ℕ → ℕ → ℕ
block s x = x - x % s

-- the lower end of cell m in key i
abbrev pub cell_low : List ℕ → List ℕ → Path → Image → ℕ → ℕ → ℕ
cell_low ws ord b img m i = start (slice_index (lows ws ord b) i) (slice_index_or img.ends i []) (digit img.ends i m)

-- its upper end, which is that of b for the last interval
abbrev pub cell_high : List ℕ → List ℕ → Path → Image → ℕ → ℕ → ℕ
cell_high ws ord b img m i = slice_index_or (slice_index_or img.ends i []) (digit img.ends i m) (slice_index (lows ws ord b) i + span ws ord (length b) i)

-- the span in key i of the box that cell m names
abbrev pub cell_span : List ℕ → List ℕ → Image → ℕ → ℕ → ℕ
cell_span ws ord img m i = span ws ord (named_in img m).level i

pub record Checked (ws ord : List ℕ) (b : Path) (n most_inner most_cells : ℕ) (img : Image) : Type 0 where
  -- there are lower ends for each key
  pub scales : length img.ends ≡ length ws
  -- both limits are kept
  pub few_inner : inner img.ends ≤ most_inner
  pub few_cells : intervals img.ends ≤ most_cells
  -- each cell names something
  pub all_cells : length img.cells ≡ intervals img.ends
  -- the ends of a key rise
  pub rising : (i : ℕ) → i < length ws → Rising (slice_index_or img.ends i [])
  -- they lie inside the box, above its own lower end
  pub inside : (i j : ℕ) → i < length ws → j < length (slice_index_or img.ends i [])
      → (slice_index (lows ws ord b) i < slice_index (slice_index_or img.ends i []) j) × (slice_index (slice_index_or img.ends i []) j < slice_index (lows ws ord b) i + span ws ord (length b) i)
  -- some cell that begins at this end names a box that begins there
  pub used : (i j : ℕ) → i < length ws → j < length (slice_index_or img.ends i [])
      → (m : ℕ) × (m < intervals img.ends) × (digit img.ends i m ≡ suc j) × (slice_index (slice_index_or img.ends i []) j % cell_span ws ord img m i ≡ 0)
  -- each cell names a page behind the root image and in the store
  pub pages : (m : ℕ) → m < intervals img.ends → (8 ≤ (named_in img m).page) × ((named_in img m).page < n)
  -- and a level from that of b on
  pub nested : (m : ℕ) → m < intervals img.ends → (length b ≤ (named_in img m).level) × ((named_in img m).level ≤ length ord)
  -- the cell's box ends no earlier than the cell
  pub covers : (m i : ℕ) → m < intervals img.ends → i < length ws
      → cell_high ws ord b img m i ≤ block (cell_span ws ord img m i) (cell_low ws ord b img m i) + cell_span ws ord img m i
  -- a cell and the next one up in key i are alike if the first one's box reaches over the second
  pub alike_up : (m i : ℕ) → m < intervals img.ends → i < length ws → digit img.ends i m < length (slice_index_or img.ends i [])
      → cell_high ws ord b img m i < block (cell_span ws ord img m i) (cell_low ws ord b img m i) + cell_span ws ord img m i
      → named_in img (m + stride img.ends i) ≡ named_in img m
  -- or the second one's box over the first
  pub alike_down : (m i : ℕ) → m < intervals img.ends → i < length ws → digit img.ends i m < length (slice_index_or img.ends i [])
      → 0 < cell_high ws ord b img m i % cell_span ws ord img (m + stride img.ends i) i
      → named_in img (m + stride img.ends i) ≡ named_in img m
