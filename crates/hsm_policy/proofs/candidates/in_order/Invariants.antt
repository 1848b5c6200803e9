use Rattle.std.proofs.Common.{◌≡◌, ◌++◌, drop}
use Rattle.std.specs.List.{flat_map}
use Rattle.hsm_policy.specs.Candidates.{candidates, offered_by}
use Rattle.hsm_policy.proofs.candidates.in_order.Given as goal

abbrev pub invariant-loop-row : goal.invariant-loop-row
invariant-loop-row l = candidates l.table ≡ l.found.items ++ flat_map offered_by (drop l.row-index l.row-items)
