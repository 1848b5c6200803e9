use Rattle.std.proofs.Common.{◌+◌, refl}
use Rattle.hsm_types.specs.Limits.{callers}
use Rattle.access_park.proofs.Tables.{access_of-empty, table-empty}
use Rattle.access_park.proofs.park.Park.new.Goals as goal

pub invariant_of-result : goal.invariant_of-result
invariant_of-result c = rw c.in_ok-slots.ensures (table-empty (callers + 1) refl)

pub returns : goal.returns
returns c = rw c.in_ok-slots.ensures (access_of-empty (callers + 1))
