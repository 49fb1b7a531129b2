-- The pages so far hold their parts of the bytes, and the others are as they were.
use Rattle.grid.proofs.Parts.{Parted}
use Rattle.grid.proofs.root_pages.write_root_pages.Given as goal

abbrev pub invariant-loop-page : goal.invariant-loop-page
invariant-loop-page g l = Parted (g.S.PageStore.pages l.initial.store) l.bytes l.page (g.S.PageStore.pages l.store)
