-- The directory page is that of the box that the root names.
use Rattle.std.proofs.Common.{ℕ, ◌≤◌, length, sym, subst, arith}
use Rattle.boxes.specs.Cuts.{Path}
use Rattle.boxes.specs.GridBoxes.{box_of}
use Rattle.boxes.specs.Space.{Lies}
use Rattle.boxes.specs.Spaces.{widths_of, order_of}
use Rattle.boxes.specs.declared.grid_box.GridBox.{GridBox}
use Rattle.boxes.specs.declared.space.Space.{Space}
use Rattle.grid.specs.Loads.{root_tile}
use Rattle.grid.specs.Sites.{DirectorySite}
use Rattle.grid.proofs.Roots.{space_names, root_level}
use Rattle.grid.proofs.Sited.{from_site}
use Rattle.grid.proofs.loading.locate_leaf.Goals as goal

pub leaf_at-requires-clause-within : goal.leaf_at-requires-clause-within
leaf_at-requires-clause-within g c =
    let mem = c.args.memory.now in
    let s = mem.space in
    let ks = c.args.keys.now in
    let laws = c.laws_stand.ensures in
    let site = c.in_ok-directory.directory in
    let at = subst (DirectorySite mem ks) c.in_ok-directory.ensures.ok_part c.directory_site.ensures in
    let short : (root_tile mem ks).level ≤ length (order_of s) = omega (arith, root_level laws.boxes laws.order mem ks at.0, s.long) in
    let inside = (laws.boxes (widths_of s) (order_of s) (space_names laws.order s)).covers (root_tile mem ks).level ks short at.0 in
    subst (λ (d : GridBox). Lies (widths_of d.space.now) (order_of d.space.now) (box_of d) ks) (sym c.in_ok-opened.ensures.opened.0)
    (from_site s mem.pages (root_tile mem ks) ks site at.1 (λ (u : Space) (b : Path) (pg : ℕ). Lies (widths_of u) (order_of u) b ks) inside)
