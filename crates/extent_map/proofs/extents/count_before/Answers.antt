use Rattle.std.proofs.Common.{rules}
use Rattle.std.proofs.lemmas.List.Sorted.{IsPartitionPoint-from_clause}
use Rattle.extent_map.specs.Extents.{precedes}
use Rattle.extent_map.proofs.Orders.{partitioned, cuts_point}
use Rattle.extent_map.proofs.extents.count_before.Goals as goal

pub returns-clause-cuts : goal.returns-clause-cuts
returns-clause-cuts c =
    let parted = partitioned c.args.ino c.args.block c.args.entries.now c.requires in
    cuts_point c.args.ino c.args.block c.args.entries.now c.partition_point.result
    (IsPartitionPoint-from_clause (precedes c.args.ino c.args.block) c.args.entries.now c.partition_point.result c.partition_point.ensures.partitioned parted (λ a r q k. search rules)) c.partition_point.ensures.bound
