-- What a daemon's sessions are known by, which kinds it takes, and which acts can be performed.
use Rattle.std.specs.Prelude.{ℕ, ◌≤◌, List, length, true, false, codes}
use Rattle.hsm_types.specs.Limits.{segment_bytes}
use Rattle.hsm_types.specs.declared.daemons.Act.{Act}
use Rattle.hsm_types.specs.declared.daemons.Act.TheVariants.{Copy}
use Rattle.hsm_types.specs.declared.daemons.Daemon.{Daemon}
use Rattle.hsm_types.specs.declared.daemons.Daemon.TheVariants.{Recall, Migrate}
use Rattle.hsm_types.specs.declared.dm.Kinds.{Kinds}

abbrev pub information : Daemon → List ℕ
information Recall = codes "HSMRECALL"
information Migrate = codes "HSMMIGRATE"

abbrev pub kinds_of : Daemon → Kinds
kinds_of Recall = record { read = true; write = true; truncate = true; no_space = false }
kinds_of Migrate = record { read = false; write = false; truncate = false; no_space = true }

-- the bytes of a copy number 1 to `segment_bytes`
abbrev pub MayPerform : Act → Type 0
MayPerform (Copy volume handle segment bytes) = (1 ≤ length bytes) × (length bytes ≤ segment_bytes)
MayPerform act = Unit {0}
