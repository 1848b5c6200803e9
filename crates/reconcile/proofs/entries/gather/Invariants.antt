use Rattle.std.proofs.Common.{◌≡◌, ◌++◌, drop}
use Rattle.std.specs.List.{filter_map}
use Rattle.reconcile.specs.Classes.{entry_of, entries_in}
use Rattle.reconcile.proofs.entries.gather.Given as goal

abbrev pub invariant-loop-segment : goal.invariant-loop-segment
invariant-loop-segment l = l.initial.entries.items ++ entries_in l.row ≡ l.entries.items ++ filter_map entry_of (drop l.segment-index l.segment-items)
