use Rattle.std.proofs.Common.{◌+◌, ◌-◌, ◌≤◌, length}
use Rattle.hsm_types.specs.Listing.{free_inode}
use Rattle.inode_table.specs.Listing.{listing}
use Rattle.inode_table.proofs.entries.lowest_free.Given as goal

abbrev pub invariant-loop-low : goal.invariant-loop-low
invariant-loop-low l = record {
  within : l.high ≤ length l.entries;
  from : l.low + 1 ≤ free_inode 1 (listing l.entries);
  to : free_inode 1 (listing l.entries) ≤ l.high + 1;
}

abbrev pub decreases-loop-low : goal.decreases-loop-low
decreases-loop-low l = l.high - l.low
