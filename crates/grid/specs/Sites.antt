-- Boxes with their pages.
use Rattle.std.specs.Prelude.{◌≡◌, ℕ, ◌<◌, ◌≤◌, List, length, Some, None, Option}
use Rattle.boxes.specs.GridBoxes.{IsBox}
use Rattle.boxes.specs.Points.{Point}
use Rattle.boxes.specs.Space.{box_at}
use Rattle.boxes.specs.Spaces.{widths_of, order_of}
use Rattle.boxes.specs.declared.space.Space.{Space}
use Rattle.images.specs.Directory.{Tile, tile_at}
use Rattle.images.specs.Memory.{image_of}
use Rattle.images.specs.declared.held_image.HeldImage.{HeldImage}
use Rattle.promise.specs.declared.memory.Memory.{Memory}
use Rattle.grid.specs.declared.site.Site.{Site}

-- the box of the level that a cell names, around the point ks, and the page that it names; the page is one of the first n
pub record SiteAt (s : Space) (n : ℕ) (t : Tile) (ks : List ℕ) (site : Site) : Type 0 where
  pub box : IsBox s (box_at (widths_of s) (order_of s) t.level ks) site.inner
  pub page : site.page ≡ t.page
  pub stored : site.page < n

-- the box of the level that the image's cell names around the point ks, and the page that it names; none exactly where ks are no keys of the image, or no box of the space has that level around them
abbrev pub SiteOf : {E C : ℕ} → Space → HeldImage E C → List ℕ → Option Site → Type 0
SiteOf s d ks None = (length ks ≡ d.keys) × ((tile_at (image_of d) ks).level ≤ s.depth) × Point (widths_of s) ks → ⊥
SiteOf s d ks (Some site) = Point (widths_of s) ks × IsBox s (box_at (widths_of s) (order_of s) (tile_at (image_of d) ks).level ks) site.inner × (site.page ≡ (tile_at (image_of d) ks).page)

-- what the root image in memory names at the point ks; none exactly where ks is no point
abbrev pub DirectorySite : Memory → List ℕ → Option Site → Type 0
DirectorySite mem ks None = Point (widths_of mem.space) ks → ⊥
DirectorySite mem ks (Some site) = Point (widths_of mem.space) ks × SiteAt mem.space mem.pages (tile_at (image_of mem.root) ks) ks site
