use Rattle.file_store.proofs.Names.{◌-◌, ◌≤◌, max, AreUnsealed}
use Rattle.file_store.proofs.plans.push_unsealed.Given as goal

abbrev pub invariant-loop-segment : goal.invariant-loop-segment
invariant-loop-segment l = record {
  begun : l.from ≤ l.start;
  most : l.start ≤ max l.from l.to;
  so_far : AreUnsealed l.ino l.from l.start l.stubs l.initial.records.items l.records.items;
}

abbrev pub decreases-loop-segment : goal.decreases-loop-segment
decreases-loop-segment l = l.to - l.start
