use Rattle.std.proofs.Common.{◌≡◌, ◌++◌, drop}
use Rattle.std.specs.List.{filter_map, enumerate_from}
use Rattle.hsm_policy.specs.Candidates.{offered, offered_by}
use Rattle.hsm_policy.proofs.candidates.offer.Given as goal

abbrev pub invariant-loop-number : goal.invariant-loop-number
invariant-loop-number l =
    l.initial.found.items ++ offered_by l.row ≡ l.found.items ++ filter_map (offered l.row) (enumerate_from l.number (drop l.number l.segment-items))
