use Rattle.std.proofs.Common.{◌≡◌, ℕ, ◌<◌}
use Rattle.hsm_policy.specs.Picking.{used_without}
use Rattle.hsm_policy.proofs.picking.shortest.Given as goal

abbrev pub invariant-loop-count : goal.invariant-loop-count
invariant-loop-count l = (l.left ≡ used_without l.used l.sorted l.count) × ((m : ℕ) → m < l.count → l.low < used_without l.used l.sorted m)
