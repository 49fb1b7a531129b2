-- What the rule of the root image in memory says at a point.
use Rattle.std.proofs.Common.{◌≡◌, ℕ, ◌<◌, ◌≤◌, List, [], length, Some, None, Option, sym, ◌∙◌, subst, arith}
use mathlib.Core.HLevel.{⊥_prop}
use mathlib.Core.Logic.{∥∥₁_elim}
use native.Mathlib.Bridge.{le_prop}
use Rattle.boxes.specs.Laws.{BoxesStand, OrderStands}
use Rattle.boxes.specs.Points.{Names, Point}
use Rattle.boxes.specs.Space.{Lies}
use Rattle.boxes.specs.Spaces.{widths_of, order_of}
use Rattle.boxes.specs.declared.space.Space.{Space}
use Rattle.images.specs.Directory.{tile_at}
use Rattle.images.specs.Memory.{image_of}
use Rattle.images.proofs.Memory.{keys_in}
use Rattle.promise.specs.declared.memory.Memory.{Memory}
use Rattle.grid.specs.Sites.{SiteOf, DirectorySite}
use Rattle.grid.specs.declared.site.Site.{Site}

-- the halving order of a space names each key as often as its width
pub space_names : OrderStands → (s : Space) → Names (widths_of s) (order_of s)
space_names order s = subst (Names (widths_of s)) (sym s.ordered) (order (widths_of s)).0

module _ (boxes : BoxesStand) (order : OrderStands) (mem : Memory) (ks : List ℕ) (p : Point (widths_of mem.space) ks) where
  whole : Lies (widths_of mem.space) (order_of mem.space) [] ks
  whole = (boxes (widths_of mem.space) (order_of mem.space) (space_names order mem.space)).whole ks p

  -- the root has as many keys as the point
  pub root_keys : (length ks ≡ mem.root.keys → ⊥) → ⊥
  root_keys n = ∥∥₁_elim mem.lawful ⊥_prop (λ l. n (p.long ∙ sym l.scales ∙ keys_in mem.root))

  -- it names a page of the store
  pub root_page : (tile_at (image_of mem.root) ks).page < mem.pages
  root_page = ∥∥₁_elim mem.lawful le_prop (λ l. (l.pages ks p whole).1)

  -- and a level that there is
  pub root_level : (tile_at (image_of mem.root) ks).level ≤ mem.space.depth
  root_level = ∥∥₁_elim mem.lawful le_prop (λ l. omega (arith, (l.nested ks p whole).1, mem.space.long))

-- so the directory box of a point is the one that the root names there
pub directory_of : BoxesStand → OrderStands → (mem : Memory) (ks : List ℕ) (r : Option Site) → SiteOf mem.space mem.root ks r → DirectorySite mem ks r
directory_of boxes order mem ks None none = λ p. root_keys boxes order mem ks p (λ e. none (e, root_level boxes order mem ks p, p))
directory_of boxes order mem ks (Some site) at = (at.0, record { box = at.1; page = at.2; stored = omega (arith, at.2, root_page boxes order mem ks at.0) })
