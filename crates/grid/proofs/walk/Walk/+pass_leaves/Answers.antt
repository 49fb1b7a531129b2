-- A box without common points has nothing, a leaf box what its bucket has, and any other what its halves have.
use Rattle.std.proofs.Common.{ℕ, true, false, List, [], length, get_or, Ok, Err, filter, sym, ◌∙◌, subst, subst₂, arith}
use Rattle.std.proofs.lemmas.Bool.{false≢true}
use Rattle.boxes.specs.Cuts.{half}
use Rattle.boxes.specs.GridBoxes.{box_of, IsBox, BothHalves}
use Rattle.boxes.specs.KeyRanges.{lowest_of, highest_of}
use Rattle.boxes.proofs.Halvings.{half_falls}
use Rattle.images.specs.Memory.{image_of}
use Rattle.promise.specs.State.{BucketBytes}
use Rattle.grid.specs.Walks.{wanted, Under, PassesUnder}
use Rattle.grid.proofs.OfCounts.{leaf_found}
use Rattle.grid.proofs.OfLists.{chosen_bucket}
use Rattle.grid.proofs.OfWalks.{low_within, under_half, of_kind, none_wanted}
use Rattle.grid.proofs.Passes.{passed_none, passed_halves}
use Rattle.grid.proofs.Somes.{not_refused}
use Rattle.grid.proofs.walk.Walk.+pass_leaves.Goals as goal

pub returns-then-not-meets-clause-passed : goal.returns-then-not-meets-clause-passed
returns-then-not-meets-clause-passed g t c st held e h reads =
    let w = c.args.self.now in
    let m = g.K.Kind.meaning w.kind.now in
    let law = g.met.K.Kind.lawful w.kind.now in
    let kr = of_kind m w.memory.now.space w.range.space.now w.range_space w.made_for in
    let kb = of_kind m w.memory.now.space w.inner.space.now w.box_space w.made_for in
    passed_none m (lowest_of w.range) (highest_of w.range) (box_of w.inner) held c.args.so_far c.args.buffer.now (omega arith)
    (none_wanted m law w.range w.inner kr kb st held h (λ v. false≢true (sym c.if-not-meets.true ∙ c.meets.ensures.1 v)))

pub leaf_at-leaf-requires-clause-within : goal.leaf_at-leaf-requires-clause-within
leaf_at-leaf-requires-clause-within g t c = (low_within c.args.directory.now.inner c.args.self.now.inner c.requires.space c.requires.inside).1

pub returns-then-leaf-self-clause-passed : goal.returns-then-leaf-self-clause-passed
returns-then-leaf-self-clause-passed g t c st held e h reads =
    let w = c.args.self.now in
    let m = g.K.Kind.meaning w.kind.now in
    let law = g.met.K.Kind.lawful w.kind.now in
    let ls = lowest_of w.range in
    let hs = highest_of w.range in
    let kb = of_kind m w.memory.now.space w.inner.space.now w.box_space w.made_for in
    let leaf = c.leaf_at-leaf.result in
    let ps = g.S.PageStore.pages c.args.store.now in
    let found = leaf_found m law st held h ls hs (length ps) c.args.directory.now w.inner leaf c.requires kb c.leaf_at-leaf.ensures c.if-leaf-self.true reads in
    let rs = found.0 in
    let bytes = subst (λ (qs : List (List ℕ)). BucketBytes m (box_of leaf.inner) rs (get_or qs leaf.page [])) e found.1 in
    let passed = c.pass_bucket.ensures.passed rs bytes in
    let f = wanted m ls hs (box_of w.inner) in
    let as_many = found.2 f (λ _ k. k) in
    (passed.0, passed.1, omega (arith, passed.2.0, as_many), (filter f rs, chosen_bucket m ls hs (box_of w.inner) rs held found.2, passed.2.1))

pub pass_leaves-requires : goal.pass_leaves-requires
pass_leaves-requires g t c κs within =
    let inner = c.args.self.now.inner in
    let both = subst (BothHalves inner) c.unwrap.ensures c.halves.ensures in
    let lower = subst (IsBox inner.space.now (half (box_of inner) false)) (sym c.at.ensures.inner) both.1 in
    let n = length (g.S.PageStore.pages c.args.store.now) in
    (omega (arith, c.decreases, half_falls inner c.at.result.inner false lower both.0), (within.0, (within.1, under_half n c.args.directory.now inner c.at.result.inner false c.requires lower)))

pub returns-in_err-middle-clause-passed : goal.returns-in_err-middle-clause-passed
returns-in_err-middle-clause-passed g t c =
    let d = c.args.directory.now in
    let passed = subst₂ (λ k r. PassesUnder (g.K.Kind.meaning k.now) (g.S.PageStore.pages c.args.store.now) (lowest_of r) (highest_of r) (box_of d.inner) (image_of d.image) (box_of c.at.result.inner) c.args.so_far c.args.buffer.now (Err c.in_err-middle.field-0.0) c.pass_leaves.new.buffer)
    c.at.ensures.kind c.at.ensures.range c.in_err-middle.ensures.passed in
    λ st held e h reads. let p = passed st held e h reads in absurd (not_refused p.0 c.in_err-middle.field-0.0 p.1)

pub pass_leaves-requires-2 : goal.pass_leaves-requires-2
pass_leaves-requires-2 g t c κs within =
    let inner = c.args.self.now.inner in
    let both = subst (BothHalves inner) c.unwrap.ensures c.halves.ensures in
    let upper = subst (IsBox inner.space.now (half (box_of inner) true)) (sym c.at-2.ensures.inner) both.2 in
    let n = length (g.S.PageStore.pages c.args.store.now) in
    let under = under_half n c.args.directory.now inner c.at-2.result.inner true c.requires upper in (
      omega (arith, c.decreases, half_falls inner c.at-2.result.inner true upper both.0),
      (within.0, (within.1, subst (λ (qs : List (List ℕ)). Under (length qs) c.args.directory.now c.at-2.result.inner) (sym c.in_ok-middle.ensures.kept) under)),
    )

pub returns-clause-passed : goal.returns-clause-passed
returns-clause-passed g t c st held e h reads =
    let w = c.args.self.now in
    let m = g.K.Kind.meaning w.kind.now in
    let inner = w.inner in
    let d = c.args.directory.now in
    let ps = g.S.PageStore.pages c.args.store.now in
    let qs = g.S.PageStore.pages c.pass_leaves.new.store in
    let kb = of_kind m w.memory.now.space w.inner.space.now w.box_space w.made_for in
    let both = subst (BothHalves inner) c.unwrap.ensures c.halves.ensures in
    let lower = subst (IsBox inner.space.now (half (box_of inner) false)) (sym c.at.ensures.inner) both.1 in
    let upper = subst (IsBox inner.space.now (half (box_of inner) true)) (sym c.at-2.ensures.inner) both.2 in
    let below = subst₂ (λ k r. PassesUnder (g.K.Kind.meaning k.now) ps (lowest_of r) (highest_of r) (box_of d.inner) (image_of d.image) (box_of c.at.result.inner) c.args.so_far c.args.buffer.now (Ok c.in_ok-middle.middle) c.pass_leaves.new.buffer)
    c.at.ensures.kind c.at.ensures.range c.in_ok-middle.ensures.passed in
    let above = subst₂ (λ k r. PassesUnder (g.K.Kind.meaning k.now) qs (lowest_of r) (highest_of r) (box_of d.inner) (image_of d.image) (box_of c.at-2.result.inner) c.in_ok-middle.middle c.pass_leaves.new.buffer c.pass_leaves-2.result c.pass_leaves-2.new.buffer)
    c.at-2.ensures.kind c.at-2.ensures.range c.pass_leaves-2.ensures.passed in
    passed_halves m (lowest_of w.range) (highest_of w.range) inner c.at.result.inner c.at-2.result.inner held c.args.so_far c.in_ok-middle.middle c.args.buffer.now c.pass_leaves.new.buffer c.pass_leaves-2.new.buffer c.pass_leaves-2.result
    c.pass_leaves.auto.buffer kb both.0 lower upper (below st held e h reads) (above st held (e ∙ sym c.in_ok-middle.ensures.kept) h reads)
