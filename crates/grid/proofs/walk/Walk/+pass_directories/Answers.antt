-- A box without common points has nothing, a box in a directory box what the image there tells, and any other what its halves have.
use Rattle.std.proofs.Common.{◌≡◌, ℕ, true, false, length, Ok, Err, sym, ap, ◌∙◌, subst, subst₂, arith}
use Rattle.std.proofs.Math.Path.{subst₃}
use Rattle.std.proofs.lemmas.Bool.{false≢true}
use Rattle.boxes.specs.Cuts.{half, around}
use Rattle.boxes.specs.GridBoxes.{box_of, lows_of, IsBox, BothHalves}
use Rattle.boxes.specs.KeyRanges.{lowest_of, highest_of}
use Rattle.boxes.specs.declared.grid_box.GridBox.{GridBox}
use Rattle.boxes.proofs.Halvings.{half_falls}
use Rattle.images.specs.Memory.{image_of}
use Rattle.images.specs.Directory.{tile_at}
use Rattle.images.specs.Checking.{LawfulIn}
use Rattle.promise.specs.State.{DirectoryAt, DirectoryBytes, page}
use Rattle.promise.proofs.Pages.{Below}
use Rattle.grid.specs.Sites.{DirectorySite}
use Rattle.grid.specs.Walks.{Passes}
use Rattle.grid.proofs.OfCounts.{page_as, page_back, directory_here, directory_read}
use Rattle.grid.proofs.OfWalks.{box_around_box, of_kind, none_wanted}
use Rattle.grid.proofs.Passes.{passed_none, passed_halves}
use Rattle.grid.proofs.Somes.{not_refused}
use Rattle.grid.proofs.walk.Walk.+pass_directories.Goals as goal

pub returns-then-not-meets-clause-passed : goal.returns-then-not-meets-clause-passed
returns-then-not-meets-clause-passed g t c st held e is h =
    let w = c.args.self.now in
    let m = g.K.Kind.meaning w.kind.now in
    let law = g.met.K.Kind.lawful w.kind.now in
    let kr = of_kind m w.memory.now.space w.range.space.now w.range_space w.made_for in
    let kb = of_kind m w.memory.now.space w.inner.space.now w.box_space w.made_for in
    passed_none m (lowest_of w.range) (highest_of w.range) (box_of w.inner) held c.args.so_far c.args.buffer.now (omega arith)
    (none_wanted m law w.range w.inner kr kb st held h (λ v. false≢true (sym c.if-not-meets.true ∙ c.meets.ensures.1 v)))

pub returns-in_err-opened-clause-passed : goal.returns-in_err-opened-clause-passed
returns-in_err-opened-clause-passed g t c st held e is h =
    let w = c.args.self.now in
    let m = g.K.Kind.meaning w.kind.now in
    let law = g.met.K.Kind.lawful w.kind.now in
    let mem = w.memory.now in
    let inner = w.inner in
    let site = c.unwrap-directory.result in
    let k = (subst (DirectorySite mem (lows_of inner)) c.unwrap-directory.ensures c.directory_site.ensures).1 in
    let ps = g.S.PageStore.pages c.args.store.now in
    let own = of_kind m mem.space site.inner.space.now k.box.0 w.made_for in
    let kb = of_kind m mem.space inner.space.now w.box_space w.made_for in
    let b = c.laws_stand.ensures in
    let below : Below = record { boxes = b.boxes; leaves = b.leaves; numbers = b.numbers; order = b.order; orders = b.orders; places = c.bucket_laws_stand.ensures.placed } in
    let read = directory_read m law st held h mem is inner kb w.box_space site k below in
    absurd (c.in_err-opened.ensures.opened.1 read.0 (page_back m site.inner.space.now own mem.pages ps st c.requires e (box_of site.inner) read.0 site.page read.1))

pub pass_leaves-requires : goal.pass_leaves-requires
pass_leaves-requires g t c =
    let w = c.args.self.now in
    let mem = w.memory.now in
    let inner = w.inner in
    let site = c.unwrap-directory.result in
    let k = (subst (DirectorySite mem (lows_of inner)) c.unwrap-directory.ensures c.directory_site.ensures).1 in
    let o = c.in_ok-opened.opened in
    let f = c.in_ok-opened.ensures.opened in
    record {
      space = ap (λ (d : GridBox). d.space.now) f.0 ∙ k.box.0 ∙ sym w.box_space;
      size = f.1 ∙ c.requires ∙ ap length (sym c.in_ok-opened.ensures.kept);
      lawful = subst₂ (λ (d : GridBox) (n : ℕ). LawfulIn d n o.image) (sym f.0) (sym f.1) f.2.lawful;
      inside = subst (λ (d : GridBox). around (box_of d) (box_of inner) ≡ true) (sym f.0)
          (box_around_box mem.space (tile_at (image_of mem.root) (lows_of inner)).level site.inner inner w.box_space k.box c.if-directory-self.true);
    }

pub returns-then-directory-self-clause-passed : goal.returns-then-directory-self-clause-passed
returns-then-directory-self-clause-passed g t c st held e is h =
    let w = c.args.self.now in
    let m = g.K.Kind.meaning w.kind.now in
    let law = g.met.K.Kind.lawful w.kind.now in
    let mem = w.memory.now in
    let inner = w.inner in
    let site = c.unwrap-directory.result in
    let k = (subst (DirectorySite mem (lows_of inner)) c.unwrap-directory.ensures c.directory_site.ensures).1 in
    let ps = g.S.PageStore.pages c.args.store.now in
    let own = of_kind m mem.space site.inner.space.now k.box.0 w.made_for in
    let kb = of_kind m mem.space inner.space.now w.box_space w.made_for in
    let o = c.in_ok-opened.opened in
    let f = c.in_ok-opened.ensures.opened in
    let at = subst (λ (d : GridBox). DirectoryAt m st (box_of d) site.page) (sym f.0) (directory_here m law st held h mem is inner kb w.box_space site k) in
    let bytes = subst (λ (d : GridBox). DirectoryBytes m st (box_of d) (image_of o.image) (page st site.page)) (sym f.0)
    (page_as m site.inner.space.now own mem.pages ps st c.requires e (box_of site.inner) (image_of o.image) site.page f.2) in
    c.pass_leaves.ensures.passed st held (e ∙ sym c.in_ok-opened.ensures.kept) h (site.page, at, bytes)

pub pass_directories-requires : goal.pass_directories-requires
pass_directories-requires g t c κs within =
    let inner = c.args.self.now.inner in
    let both = subst (BothHalves inner) c.unwrap.ensures c.halves.ensures in
    let lower = subst (IsBox inner.space.now (half (box_of inner) false)) (sym c.at.ensures.inner) both.1 in
    (omega (arith, c.decreases, half_falls inner c.at.result.inner false lower both.0), (within.0, (within.1, ap (λ x. x.now.pages) c.at.ensures.memory ∙ c.requires)))

pub returns-in_err-middle-clause-passed : goal.returns-in_err-middle-clause-passed
returns-in_err-middle-clause-passed g t c =
    let ps = g.S.PageStore.pages c.args.store.now in
    let passed = subst₃ (λ k m r. Passes (g.K.Kind.meaning k.now) ps m.now (lowest_of r) (highest_of r) (box_of c.at.result.inner) c.args.so_far c.args.buffer.now (Err c.in_err-middle.field-0.0) c.pass_directories.new.buffer)
    c.at.ensures.kind c.at.ensures.memory c.at.ensures.range c.in_err-middle.ensures.passed in
    λ st held e is h. let p = passed st held e is h in absurd (not_refused p.0 c.in_err-middle.field-0.0 p.1)

pub pass_directories-requires-2 : goal.pass_directories-requires-2
pass_directories-requires-2 g t c κs within =
    let inner = c.args.self.now.inner in
    let both = subst (BothHalves inner) c.unwrap.ensures c.halves.ensures in
    let upper = subst (IsBox inner.space.now (half (box_of inner) true)) (sym c.at-2.ensures.inner) both.2 in (
      omega (arith, c.decreases, half_falls inner c.at-2.result.inner true upper both.0),
      (within.0, (within.1, ap (λ x. x.now.pages) c.at-2.ensures.memory ∙ c.requires ∙ ap length (sym c.in_ok-middle.ensures.kept))),
    )

pub returns-clause-passed : goal.returns-clause-passed
returns-clause-passed g t c st held e is h =
    let w = c.args.self.now in
    let m = g.K.Kind.meaning w.kind.now in
    let inner = w.inner in
    let ps = g.S.PageStore.pages c.args.store.now in
    let qs = g.S.PageStore.pages c.pass_directories.new.store in
    let kb = of_kind m w.memory.now.space inner.space.now w.box_space w.made_for in
    let both = subst (BothHalves inner) c.unwrap.ensures c.halves.ensures in
    let lower = subst (IsBox inner.space.now (half (box_of inner) false)) (sym c.at.ensures.inner) both.1 in
    let upper = subst (IsBox inner.space.now (half (box_of inner) true)) (sym c.at-2.ensures.inner) both.2 in
    let below = subst₃ (λ k m r. Passes (g.K.Kind.meaning k.now) ps m.now (lowest_of r) (highest_of r) (box_of c.at.result.inner) c.args.so_far c.args.buffer.now (Ok c.in_ok-middle.middle) c.pass_directories.new.buffer)
    c.at.ensures.kind c.at.ensures.memory c.at.ensures.range c.in_ok-middle.ensures.passed in
    let above = subst₃ (λ k m r. Passes (g.K.Kind.meaning k.now) qs m.now (lowest_of r) (highest_of r) (box_of c.at-2.result.inner) c.in_ok-middle.middle c.pass_directories.new.buffer c.pass_directories-2.result c.pass_directories-2.new.buffer)
    c.at-2.ensures.kind c.at-2.ensures.memory c.at-2.ensures.range c.pass_directories-2.ensures.passed in
    passed_halves m (lowest_of w.range) (highest_of w.range) inner c.at.result.inner c.at-2.result.inner held c.args.so_far c.in_ok-middle.middle c.args.buffer.now c.pass_directories.new.buffer c.pass_directories-2.new.buffer c.pass_directories-2.result
    c.pass_directories.auto.buffer kb both.0 lower upper (below st held e is h) (above st held (e ∙ sym c.in_ok-middle.ensures.kept) is h)
