-- The ends up to x come first.
use Rattle.std.proofs.Common.{leb, rules}
use Rattle.std.proofs.lemmas.List.Sorted.{IsPartitionPoint-from_clause}
use Rattle.images.proofs.Finds.{rising_parted, position_parted}
use Rattle.images.proofs.positions.position_of.Goals as goal

pub returns-clause-place : goal.returns-clause-place
returns-clause-place c = λ up.
    let x = c.args.x in
    let xs = c.args.ends.now in
    position_parted x xs c.partition_point.result c.partition_point.ensures.bound
    (IsPartitionPoint-from_clause (λ e. leb e x) xs c.partition_point.result c.partition_point.ensures.partitioned (rising_parted x xs up) (λ a r q k. search rules))
