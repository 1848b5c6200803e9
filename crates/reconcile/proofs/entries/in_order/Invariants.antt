use Rattle.std.proofs.Common.{◌≡◌, ◌++◌, drop}
use Rattle.std.specs.List.{flat_map}
use Rattle.reconcile.specs.Classes.{entries_in, entries_of}
use Rattle.reconcile.proofs.entries.in_order.Given as goal

abbrev pub invariant-loop-row : goal.invariant-loop-row
invariant-loop-row l = entries_of l.table ≡ l.entries.items ++ flat_map entries_in (drop l.row-index l.row-items)
