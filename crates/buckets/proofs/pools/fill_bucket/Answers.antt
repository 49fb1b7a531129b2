-- One string after the other.
use Rattle.std.proofs.Common.{◌*◌, ◌/◌, ◌%◌, length, Err, sym, refl, ap, ◌∙◌, subst, arith}
use Rattle.std.specs.Slice.Iter.{chunks_exact_rest, chunks_exact_size}
use Rattle.boxes.specs.GridBoxes.{box_of}
use Rattle.boxes.specs.Spaces.{widths_of, order_of}
use Rattle.buckets.specs.Pools.{InBox, Filled, not_filled}
use Rattle.buckets.proofs.OfPools.{ragged, whole_strings, walk_starts, walk_goes_on, walk_overfull, walk_ends, err_is}
use Rattle.buckets.proofs.pools.fill_bucket.Goals as goal

pub returns-then-pool-size-ne0 : goal.returns-then-pool-size-ne0
returns-then-pool-size-ne0 g c =
    let z = c.size-size.ensures in
    ((λ n e. ragged (length c.args.pool.now) c.size-size.result c.if-pool-size-ne0.true n (e ∙ ap (λ k. n * k) (sym z))), refl)

pub loop-bytes-init : goal.loop-bytes-init
loop-bytes-init g c =
    let kind = c.args.kind.now in
    let m = g.K.Kind.meaning kind in
    let inner = c.args.inner.now in
    let s = inner.space.now in
    let pool = c.args.pool.now in
    let chunks = c.chunks_exact-bytes-items.ensures in
    let same = c.into_iter-bytes-iterator.ensures.into_iter_gives in
    let z = c.size-size.ensures in (
      ap chunks_exact_size same ∙ chunks.size ∙ z,
      c.start_bucket.array_long,
      walk_starts m (g.met.K.Kind.lawful kind) (InBox m (widths_of s) (order_of s) (box_of inner)) inner.level pool _ c.start_bucket.new.page
          (ap (λ n. length pool % n) (sym z) ∙ c.if-pool-size-ne0.false) (ap chunks_exact_rest same ∙ chunks.rest) (c.start_bucket.ensures m),
    )

pub loop-bytes-preserved : goal.loop-bytes-preserved
loop-bytes-preserved g c =
    let kind = c.args.kind.now in
    let m = g.K.Kind.meaning kind in
    let inner = c.args.inner.now in
    let s = inner.space.now in
    let inv = c.loop-bytes.invariant in
    let w = inv.2 in
    let step = c.in-Some.ensures.steps in (
      step.0 ∙ inv.0,
      c.type_inv.bucket,
      walk_goes_on m (g.met.K.Kind.lawful kind) (InBox m (widths_of s) (order_of s) (box_of inner)) inner.level c.args.pool.now _ _ w c.in-Some.bytes.now (chunks_exact_rest c.next.new.self)
          step.1.0 (step.1.1 ∙ inv.0) c.take_in.new.bucket (c.in_ok-take_in.ensures w.so_far w.chosen w.picked w.held),
    )

pub returns-in_err-take_in : goal.returns-in_err-take_in
returns-in_err-take_in g c =
    let kind = c.args.kind.now in
    let m = g.K.Kind.meaning kind in
    let inner = c.args.inner.now in
    let s = inner.space.now in
    let pool = c.args.pool.now in
    let P = InBox m (widths_of s) (order_of s) (box_of inner) in
    let inv = c.loop-bytes.invariant in
    let w = inv.2 in
    let step = c.in-Some.ensures.steps in
    let took = c.in_err-take_in.ensures w.so_far w.chosen w.picked w.held in
    let whole = whole_strings (length pool) m.size (ap (λ n. length pool % n) (sym c.size-size.ensures) ∙ c.if-pool-size-ne0.false) in
    let over = walk_overfull m (g.met.K.Kind.lawful kind) P inner.level pool _ _ w c.in-Some.bytes.now (chunks_exact_rest c.next.new.self) step.1.0 (step.1.1 ∙ inv.0) (took.0, took.1, took.2.1) in
    subst (λ r. Filled m P inner.level pool c.args.page.now c.args.page.now r) (sym (err_is c.from_residual.result _ c.from_residual.ensures.1 ∙ ap (λ fault. Err (not_filled fault)) took.2.0))
    (refl, (length pool / m.size, whole, over))

pub returns : goal.returns
returns g c =
    let kind = c.args.kind.now in
    let m = g.K.Kind.meaning kind in
    let inner = c.args.inner.now in
    let s = inner.space.now in
    let pool = c.args.pool.now in
    let inv = c.loop-bytes.invariant in
    let step = c.in-None.ensures.steps in (
      length pool / m.size,
      whole_strings (length pool) m.size (ap (λ n. length pool % n) (sym c.size-size.ensures) ∙ c.if-pool-size-ne0.false),
      walk_ends m (g.met.K.Kind.lawful kind) (InBox m (widths_of s) (order_of s) (box_of inner)) inner.level pool _ _ inv.2 (omega (arith, step.1.0, inv.0)),
    )
