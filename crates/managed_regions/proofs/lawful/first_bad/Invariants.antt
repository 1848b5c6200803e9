use Rattle.std.proofs.Common.{◌≡◌, None, drop}
use Rattle.hsm_types.specs.Regions.{first_bad}
use Rattle.managed_regions.proofs.lawful.first_bad.Given as goal

abbrev pub invariant-loop-region : goal.invariant-loop-region
invariant-loop-region l = record { counted : l.index ≡ l.region-index; rest : first_bad l.limits l.index l.before (drop l.region-index l.regions) ≡ first_bad l.limits 0 None l.regions }
