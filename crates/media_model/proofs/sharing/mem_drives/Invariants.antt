use Rattle.std.proofs.Common.{◌≡◌, length, ℕ, IfSome}
use Rattle.std.specs.Prelude.{slice_get}
use Rattle.media_model.specs.Sharing.{IsNew}
use Rattle.media_model.proofs.sharing.mem_drives.Given as goal

abbrev pub invariant-loop-number : goal.invariant-loop-number
invariant-loop-number l = (length l.all.items ≡ l.number) × ((number : ℕ) → IfSome (slice_get l.all.items number) (IsNew number l.drives l.volumes l.capacity))
