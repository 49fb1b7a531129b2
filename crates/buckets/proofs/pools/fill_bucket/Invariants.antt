-- The bucket holds those of the strings so far that lie in the box.
use Rattle.std.proofs.Common.{◌≡◌, length}
use Rattle.std.specs.Slice.Iter.{chunks_exact_rest, chunks_exact_size}
use Rattle.boxes.specs.GridBoxes.{box_of}
use Rattle.boxes.specs.Spaces.{widths_of, order_of}
use Rattle.buckets.specs.Pools.{InBox}
use Rattle.buckets.proofs.OfPools.{Walked}
use Rattle.buckets.proofs.pools.fill_bucket.Given as goal

abbrev pub invariant-loop-bytes : goal.invariant-loop-bytes
invariant-loop-bytes g l =
    let m = g.K.Kind.meaning l.kind in
    let s = l.inner.space.now in
    (chunks_exact_size l.bytes-iterator ≡ m.size) × (length l.bucket ≡ 512)
    × Walked m (InBox m (widths_of s) (order_of s) (box_of l.inner)) l.inner.level l.pool (chunks_exact_rest l.bytes-iterator) l.bucket
