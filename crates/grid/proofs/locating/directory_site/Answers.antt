-- The root names a page and a level that there are.
use Rattle.grid.proofs.Roots.{directory_of}
use Rattle.grid.proofs.locating.directory_site.Goals as goal

pub returns : goal.returns
returns c = directory_of c.laws_stand.ensures.boxes c.laws_stand.ensures.order c.args.memory.now c.args.keys.now c.site_of.result c.site_of.ensures
