-- What is no record in the box is left, and what is one comes behind the others.
use Rattle.std.proofs.Common.{sym, ◌∙◌}
use Rattle.std.proofs.lemmas.Bool.{false≢true}
use Rattle.boxes.specs.GridBoxes.{box_of}
use Rattle.boxes.specs.Spaces.{widths_of, order_of}
use Rattle.buckets.specs.Pools.{InBox}
use Rattle.buckets.proofs.OfPools.{took_same, took_more}
use Rattle.buckets.proofs.pools.take_in.Goals as goal

pub returns-then-is_in_box : goal.returns-then-is_in_box
returns-then-is_in_box g c =
    let kind = c.args.kind.now in
    let m = g.K.Kind.meaning kind in
    let inner = c.args.inner.now in
    let s = inner.space.now in
    took_more m (g.met.K.Kind.lawful kind) (InBox m (widths_of s) (order_of s) (box_of inner)) inner.level c.args.bytes.now c.args.bucket.now
    c.add_record.new.page c.add_record.result (c.is_in_box.ensures.0 c.if-is_in_box.true) c.requires c.add_record.ensures

pub returns-else-is_in_box : goal.returns-else-is_in_box
returns-else-is_in_box g c =
    let kind = c.args.kind.now in
    let m = g.K.Kind.meaning kind in
    let inner = c.args.inner.now in
    let s = inner.space.now in
    took_same m (g.met.K.Kind.lawful kind) (InBox m (widths_of s) (order_of s) (box_of inner)) inner.level c.args.bytes.now c.args.bucket.now (tt {0})
    (λ p. false≢true (sym c.if-is_in_box.false ∙ c.is_in_box.ensures.1 p))
