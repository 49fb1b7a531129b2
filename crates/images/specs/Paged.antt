-- The images of the leaf boxes of a directory box, and of the directory boxes. In all of it c is the capacity of a leaf box, and hs are the points held.
use Rattle.std.specs.Prelude.{◌≡◌, ℕ, ◌<◌, ◌≤◌, true, List, [], map, length, filter}
use Rattle.boxes.specs.Cuts.{Path, around}
use Rattle.boxes.specs.Points.{Point}
use Rattle.boxes.specs.Space.{Lies}
use Rattle.boxes.specs.Directories.{ends, limits}
use Rattle.boxes.specs.Laws.{LeafBox, leaf_list, DirectoryBox, directory_list}
use Rattle.images.specs.Directory.{Image, Lawful, tile_at}
use Rattle.images.specs.Tilings.{Piece, tile_of, built}

-- each box with its page
abbrev pub paged : (Path → ℕ) → List Path → List Piece
paged page bs = map (λ b. record { box = b; page = page b }) bs

-- The image shows the boxes that are so, at their pages.
pub record Shows (ws ord : List ℕ) (b : Path) (n most_inner most_cells : ℕ) (page : Path → ℕ) (Box : Path → Type 0) (img : Image) : Type 0 where
  -- it is a lawful image of b
  pub lawful : Lawful ws ord b n most_inner most_cells img
  -- it names at each point of b the page and the level of its box
  pub names : (p : List ℕ) → Point ws p → Lies ws ord b p → (d : Path) → Box d → length d ≤ length ord → Lies ws ord d p → tile_at img p ≡ tile_of (record { box = d; page = page d })

-- Every box of the points has an image, whatever the pages behind the root image at which they stand.
pub record PageLaws (ws ord : List ℕ) (c : ℕ) (hs : List (List ℕ)) (n : ℕ) (page : Path → ℕ) : Type 0 where
  -- a directory box over the leaf boxes in it
  pub directory : ((d : Path) → LeafBox ws ord c hs d → (8 ≤ page d) × (page d < n)) → (b : Path) → length b ≤ length ord → DirectoryBox ws ord c hs b
      → Shows ws ord b n 60 80 page (LeafBox ws ord c hs) (built ws ord b (paged page (filter (around b) (leaf_list ws ord c hs))))
  -- the root over the directory boxes, where these keep its limits
  pub root : ((d : Path) → DirectoryBox ws ord c hs d → (8 ≤ page d) × (page d < n)) → limits 250 1024 (length ws) (ends ws ord (directory_list ws ord c hs)) ≡ true
      → Shows ws ord [] n 250 1024 page (DirectoryBox ws ord c hs) (built ws ord [] (paged page (directory_list ws ord c hs)))
