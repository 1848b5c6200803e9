use Rattle.std.proofs.Common.{◌≡◌, length, ℕ, IfSome}
use Rattle.std.specs.Prelude.{slice_get}
use Rattle.hosts.proofs.file_host.open_drives.Given as goal

abbrev pub invariant-loop-number : goal.invariant-loop-number
invariant-loop-number g l = (length l.all.items ≡ l.number) × ((number : ℕ) → IfSome (slice_get l.all.items number) (λ d. d ≡ record { number = number; drives = l.drives; volumes = l.volumes; capacity = l.capacity; faults = 0 }))
