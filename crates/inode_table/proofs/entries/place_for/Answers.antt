use Rattle.std.proofs.Common.{ltb, rules}
use Rattle.std.proofs.lemmas.List.Sorted.{IsPartitionPoint-from_clause}
use Rattle.inode_table.proofs.Orders.{partitioned}
use Rattle.inode_table.proofs.PlacesOfFiles.{cuts-point}
use Rattle.inode_table.proofs.entries.place_for.Goals as goal

pub returns-clause-place : goal.returns-clause-place
returns-clause-place c =
    let parted = partitioned 1 c.args.entries.now c.args.ino c.requires in
    cuts-point c.args.ino c.args.entries.now c.partition_point.result (IsPartitionPoint-from_clause (λ f. ltb f.key.ino c.args.ino) c.args.entries.now c.partition_point.result c.partition_point.ensures.partitioned parted (λ a r q k. search rules)) c.partition_point.ensures.bound
