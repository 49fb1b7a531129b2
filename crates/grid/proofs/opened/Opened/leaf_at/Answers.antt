-- A lawful image names a page and a level that there are.
use Rattle.std.proofs.Common.{sym, ◌∙◌, subst, arith}
use Rattle.images.proofs.Memory.{keys_in}
use Rattle.grid.specs.Sites.{SiteOf}
use Rattle.grid.proofs.Somes.{is_some}
use Rattle.grid.proofs.opened.Opened.leaf_at.Goals as goal

pub unwrap-requires : goal.unwrap-requires
unwrap-requires c =
    let d = c.args.self.now in
    let ks = c.args.keys.now in
    is_some c.site_of.result (λ e. subst (SiteOf d.inner.space.now d.image ks) e c.site_of.ensures (
      c.requires.point.long ∙ sym c.requires.lawful.scales ∙ keys_in d.image,
      omega (arith, (c.requires.lawful.nested ks c.requires.point c.requires.within).1, d.inner.space.now.long),
      c.requires.point,
    ))

pub returns : goal.returns
returns c =
    let d = c.args.self.now in
    let ks = c.args.keys.now in
    let at = subst (SiteOf d.inner.space.now d.image ks) c.unwrap.ensures c.site_of.ensures in
    record { box = at.1; page = at.2; stored = omega (arith, at.2, (c.requires.lawful.pages ks c.requires.point c.requires.within).1) }
