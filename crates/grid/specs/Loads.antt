-- Directory pages and bucket pages as they are read.
use Rattle.std.specs.Prelude.{◌≡◌, ℕ, ◌⊎◌, List, [], Ok, Err, Result, slice_index_or}
use Rattle.boxes.specs.GridBoxes.{box_of}
use Rattle.boxes.specs.Points.{Point}
use Rattle.boxes.specs.Space.{box_at}
use Rattle.boxes.specs.Spaces.{widths_of, order_of}
use Rattle.buckets.specs.Bucket.{IsBucketIn}
use Rattle.images.specs.Directory.{Image, Tile, tile_at, DirectoryPage}
use Rattle.images.specs.Memory.{image_of}
use Rattle.kinds.specs.Meaning.{Meaning}
use Rattle.promise.specs.declared.memory.Memory.{Memory}
use Rattle.promise.specs.declared.refusal.Refusal.{Refusal}
use Rattle.promise.specs.declared.refusal.Refusal.TheVariants.{BadKeys, BrokenPage}
use Rattle.grid.specs.Sites.{SiteAt}
use Rattle.grid.specs.declared.opened.Opened.{Opened}
use Rattle.grid.specs.declared.site.Site.{Site}

-- the box with the image that the bytes are, a directory page of the box in a store of n pages; or they are none
abbrev pub DirectoryOpened : ℕ → Site → List ℕ → Result Opened Refusal → Type 0
DirectoryOpened n t bytes (Ok d) = (d.inner ≡ t.inner) × (d.pages ≡ n) × DirectoryPage (widths_of t.inner.space.now) (order_of t.inner.space.now) n (box_of t.inner) (image_of d.image) bytes
DirectoryOpened n t bytes (Err e) = (e ≡ BrokenPage t.page)
    × ((img : Image) → DirectoryPage (widths_of t.inner.space.now) (order_of t.inner.space.now) n (box_of t.inner) img bytes → ⊥)

-- the buffer holds the bytes; they are a bucket page of the box, or none
abbrev pub BucketLoaded : {U : Type 0} → Meaning → Site → List ℕ → List ℕ → Result U Refusal → Type 0
BucketLoaded m t bytes buffer (Ok _) = (buffer ≡ bytes) × IsBucketIn m (widths_of t.inner.space.now) (order_of t.inner.space.now) (box_of t.inner) bytes
BucketLoaded m t bytes buffer (Err e) = (buffer ≡ bytes) × (e ≡ BrokenPage t.page)
    × (IsBucketIn m (widths_of t.inner.space.now) (order_of t.inner.space.now) (box_of t.inner) bytes → ⊥)

-- what the root image in memory names at the point ks
abbrev pub root_tile : Memory → List ℕ → Tile
root_tile mem ks = tile_at (image_of mem.root) ks

-- the directory page of the point, read with this image
abbrev pub PageRead : Memory → List (List ℕ) → List ℕ → Image → Type 0
PageRead mem ps ks img =
    DirectoryPage (widths_of mem.space) (order_of mem.space) mem.pages (box_at (widths_of mem.space) (order_of mem.space) (root_tile mem ks).level ks) img (slice_index_or ps (root_tile mem ks).page [])

-- the leaf box that the directory page of the point names there; or the keys are no point, or the directory page breaks its layout
abbrev pub LeafLocated : Memory → List (List ℕ) → List ℕ → Result Site Refusal → Type 0
LeafLocated mem ps ks (Ok t) = Point (widths_of mem.space) ks × ((img : Image) × PageRead mem ps ks img × SiteAt mem.space mem.pages (tile_at img ks) ks t)
LeafLocated mem ps ks (Err e) = ((e ≡ BadKeys) × (Point (widths_of mem.space) ks → ⊥))
    ⊎ ((e ≡ BrokenPage (root_tile mem ks).page) × Point (widths_of mem.space) ks × ((img : Image) → PageRead mem ps ks img → ⊥))
