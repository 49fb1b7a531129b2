-- What is known of a box with its page, at the space, the box and the page that it stands for.
use Rattle.std.proofs.Common.{ℕ, List, sym, subst}
use Rattle.boxes.specs.Cuts.{Path}
use Rattle.boxes.specs.GridBoxes.{box_of}
use Rattle.boxes.specs.Space.{box_at}
use Rattle.boxes.specs.Spaces.{widths_of, order_of}
use Rattle.boxes.specs.declared.space.Space.{Space}
use Rattle.images.specs.Directory.{Tile}
use Rattle.grid.specs.Sites.{SiteAt}
use Rattle.grid.specs.declared.site.Site.{Site}

module _ (s : Space) (n : ℕ) (t : Tile) (ks : List ℕ) (site : Site) (k : SiteAt s n t ks site) (Q : Space → Path → ℕ → Type 0) where
  pub at_site : Q site.inner.space.now (box_of site.inner) site.page → Q s (box_at (widths_of s) (order_of s) t.level ks) t.page
  at_site q =
      subst (λ pg. Q s (box_at (widths_of s) (order_of s) t.level ks) pg) k.page
      (subst (λ b. Q s b site.page) k.box.1 (subst (λ (u : Space). Q u (box_of site.inner) site.page) k.box.0 q))

  pub from_site : Q s (box_at (widths_of s) (order_of s) t.level ks) t.page → Q site.inner.space.now (box_of site.inner) site.page
  from_site q =
      subst (λ (u : Space). Q u (box_of site.inner) site.page) (sym k.box.0)
      (subst (λ b. Q s b site.page) (sym k.box.1) (subst (λ pg. Q s (box_at (widths_of s) (order_of s) t.level ks) pg) (sym k.page) q))
