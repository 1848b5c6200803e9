use Rattle.std.proofs.Common.{◌≡◌, ℕ, nat_eq, if◌then◌else◌, Some, None, take}
use Rattle.std.specs.List.{list_any}
use Rattle.std.specs.Map.{lookup}
use Rattle.media_model.specs.Memory.{no_objects}
use Rattle.media_model.proofs.sure.SureDrive.new.Given as goal

abbrev pub invariant-loop-number : goal.invariant-loop-number
invariant-loop-number l = (v : ℕ) → lookup (nat_eq v) l.table.entries ≡ (if list_any (nat_eq v) (take l.number-index l.volumes) then Some no_objects else None)
