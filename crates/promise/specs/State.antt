-- The pages and the grid's memory, and what they say.
use Rattle.std.specs.Prelude.{◌≡◌, ℕ, List, [], length, take, Option, slice_index_or}
use Rattle.boxes.specs.Cuts.{Path, In}
use Rattle.boxes.specs.Points.{Point}
use Rattle.boxes.specs.Space.{Lies, box_at}
use Rattle.kinds.specs.Meaning.{Meaning}
use Rattle.images.specs.Bytes.{joined}
use Rattle.images.specs.Directory.{Tile, Image, tile_at, RootBytes, DirectoryPage}
use Rattle.buckets.specs.Bucket.{BucketPageIn}
use Rattle.promise.specs.Determined.{keys_of, IsLeaf, IsDirectory}
use Rattle.promise.specs.declared.memory.Memory.{Memory}

-- what a call finds and leaves
pub record State : Type 0 where
  -- the pages of the store
  pub pages : List (List ℕ)
  -- the grid's memory, or none where it was never made
  pub memory : Option Memory

-- how many pages the store has
abbrev pub size_of : State → ℕ
size_of st = length st.pages

-- the bytes of page j
abbrev pub page : State → ℕ → List ℕ
page st j = slice_index_or st.pages j []

-- pages 0 to 7 as one string
abbrev pub root_pages : State → List ℕ
root_pages st = joined (take 8 st.pages)

-- the box of the level that a cell names, around the point ks
abbrev pub box_around : Meaning → Tile → List ℕ → Path
box_around m t ks = box_at m.widths m.halvings t.level ks

-- the bytes are a directory page of the box b, with this image, in a store as large as that of the state
abbrev pub DirectoryBytes : Meaning → State → Path → Image → List ℕ → Type 0
DirectoryBytes m st b img bytes = DirectoryPage m.widths m.halvings (size_of st) b img bytes

-- the bytes are a bucket page of the box b, with these records
abbrev pub BucketBytes : Meaning → Path → List (List ℕ) → List ℕ → Type 0
BucketBytes m b rs bytes = BucketPageIn m m.widths m.halvings b rs bytes

-- In the pages, b is a directory box and pg its directory page: a cell of the root image in pages 0 to 7 stands for it.
pub record DirectoryAt (m : Meaning) (st : State) (b : Path) (pg : ℕ) : Type 0 where
  pub root : Image
  pub read : RootBytes m.widths m.halvings (size_of st) root (root_pages st)
  -- a point of the cell
  pub point : List ℕ
  pub valid : Point m.widths point
  pub box : b ≡ box_around m (tile_at root point) point
  pub names : pg ≡ (tile_at root point).page

-- In the pages, b is a leaf box and pg its bucket page: a cell of the image in a directory box's page stands for it.
pub record LeafAt (m : Meaning) (st : State) (b : Path) (pg : ℕ) : Type 0 where
  -- the directory box and its page
  pub above : Path
  pub above_page : ℕ
  pub directory : DirectoryAt m st above above_page
  pub image : Image
  pub read : DirectoryBytes m st above image (page st above_page)
  -- a point of the cell
  pub point : List ℕ
  pub valid : Point m.widths point
  pub within : Lies m.widths m.halvings above point
  pub box : b ≡ box_around m (tile_at image point) point
  pub names : pg ≡ (tile_at image point).page

-- the records of the bucket are exactly those held that lie in the box b
abbrev pub Exactly : Meaning → List (List ℕ) → Path → List (List ℕ) → Type 0
Exactly m held b rs = (r : List ℕ) → (In r rs → In r held × Lies m.widths m.halvings b (keys_of m r))
    × (In r held → Lies m.widths m.halvings b (keys_of m r) → In r rs)

-- The boxes in the pages are exactly those that the records determine, the buckets hold exactly these records, and each box has a page of its own.
pub record Stands (m : Meaning) (st : State) (held : List (List ℕ)) : Type 0 where
  -- each directory box of the records is in the pages, and no other is
  pub directories : (b : Path) → IsDirectory m held b → (pg : ℕ) × DirectoryAt m st b pg
  pub no_other_directories : (b : Path) (pg : ℕ) → DirectoryAt m st b pg → IsDirectory m held b
  -- each leaf box too
  pub leaves : (b : Path) → IsLeaf m held b → (pg : ℕ) × LeafAt m st b pg
  pub no_other_leaves : (b : Path) (pg : ℕ) → LeafAt m st b pg → IsLeaf m held b
  -- the bucket page of a leaf box holds the records held in it
  pub contents : (b : Path) (pg : ℕ) → LeafAt m st b pg → (rs : List (List ℕ)) × BucketBytes m b rs (page st pg) × Exactly m held b rs
  -- each box has one page, and no page serves two
  pub one_directory_page : (b : Path) (pg pg' : ℕ) → DirectoryAt m st b pg → DirectoryAt m st b pg' → pg ≡ pg'
  pub own_directory_page : (b b' : Path) (pg : ℕ) → DirectoryAt m st b pg → DirectoryAt m st b' pg → b ≡ b'
  pub one_bucket_page : (b : Path) (pg pg' : ℕ) → LeafAt m st b pg → LeafAt m st b pg' → pg ≡ pg'
  pub own_bucket_page : (b b' : Path) (pg : ℕ) → LeafAt m st b pg → LeafAt m st b' pg → b ≡ b'
  pub never_both : (b b' : Path) (pg : ℕ) → DirectoryAt m st b pg → LeafAt m st b' pg → ⊥
