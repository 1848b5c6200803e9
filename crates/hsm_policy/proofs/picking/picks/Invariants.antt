use Rattle.std.proofs.Common.{◌≡◌, map, take}
use Rattle.hsm_policy.specs.Picking.{picked}
use Rattle.hsm_policy.proofs.picking.picks.Given as goal

abbrev pub invariant-loop-candidate : goal.invariant-loop-candidate
invariant-loop-candidate l = l.picks.items ≡ map picked (take l.candidate-index l.sorted)
