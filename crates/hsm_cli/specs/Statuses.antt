-- The status of each cause.
use Rattle.std.specs.Prelude.{ℕ, Option, Some, None}
use Rattle.disk_model.specs.declared.refusal.OpenRefusal.{OpenRefusal}
use Rattle.disk_model.specs.declared.refusal.OpenRefusal.TheVariants as opening
use Rattle.reconcile.specs.declared.refusals.ReconcileRefusal.{ReconcileRefusal}
use Rattle.reconcile.specs.declared.refusals.ReconcileRefusal.TheVariants as counting
use Rattle.hosts.specs.declared.outside.HostRefusal.{HostRefusal}
use Rattle.hosts.specs.declared.outside.HostRefusal.TheVariants as handing
use Rattle.hsm_cli.specs.declared.causes.Cause.{Cause}
use Rattle.hsm_cli.specs.declared.causes.Cause.TheVariants.{ScriptRefused, WordsRefused, NotStore, Corrupt, ReadFault, WriteFault, DiskFault}
use Rattle.hsm_cli.specs.declared.causes.Cause.TheVariants.{HostFault, NoMemory}

abbrev pub status_of : Option Cause → ℕ
status_of None = 0
status_of (Some (ScriptRefused line)) = 1
status_of (Some WordsRefused) = 2
status_of (Some NotStore) = 3
status_of (Some (Corrupt place)) = 3
status_of (Some ReadFault) = 4
status_of (Some WriteFault) = 5
status_of (Some DiskFault) = 6
status_of (Some HostFault) = 7
status_of (Some NoMemory) = 8

-- the line at which a script is refused, or the place at which a store is corrupt, else 0
abbrev pub place_of : Option Cause → ℕ
place_of (Some (ScriptRefused line)) = line
place_of (Some (Corrupt place)) = place
place_of other = 0

-- why a store wasn't opened
abbrev pub cause_of_refusal : OpenRefusal → Cause
cause_of_refusal opening.NotStore = NotStore
cause_of_refusal (opening.Corrupt place) = Corrupt place
cause_of_refusal opening.Disk = DiskFault
cause_of_refusal opening.Memory = NoMemory

-- why a disk wasn't handed out
abbrev pub cause_of_host : HostRefusal → Cause
cause_of_host handing.Failed = HostFault
cause_of_host handing.Memory = NoMemory

-- why classes weren't counted: a drive of the host failed, or memory was wanting
abbrev pub cause_of_classes : ReconcileRefusal → Cause
cause_of_classes (counting.Failed volume) = HostFault
cause_of_classes counting.Memory = NoMemory
