use Rattle.std.proofs.Common.{◌≡◌, length, ℕ, IfSome}
use Rattle.std.specs.Prelude.{slice_get}
use Rattle.media_model.specs.Sharing.{IsNew, never_failing}
use Rattle.media_model.proofs.sharing.sure_drives.Given as goal

abbrev pub invariant-loop-number : goal.invariant-loop-number
invariant-loop-number l = (length l.all.items ≡ l.number) × ((number : ℕ) → IfSome (slice_get l.all.items number) (λ held. IsNew number l.drives l.volumes l.capacity (never_failing held)))
