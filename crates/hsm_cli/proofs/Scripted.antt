-- A script that is read and run.
use Rattle.std.proofs.Common.{◌≡◌, ◌∙◌, ◌⊎◌, List, [], Result, Ok, Err, IfErr, OnErr, sym, ap, subst}
use Rattle.media_model.specs.declared.drive.Drive as drive
use Rattle.plain_model.specs.declared.entries.Entry.{Entry}
use Rattle.hsm_replay.specs.Faults.{faults_in, AreTrue}
use Rattle.hsm_cli.specs.declared.causes.Cause.{Cause}
use Rattle.hsm_cli.specs.declared.causes.Cause.TheVariants.{ScriptRefused, WordsRefused, NotStore, Corrupt, ReadFault, WriteFault, DiskFault}
use Rattle.hsm_cli.specs.declared.causes.Cause.TheVariants.{HostFault, NoMemory}
use Rattle.hsm_cli.specs.Endings.{ScriptEnds}
use Rattle.hsm_cli.specs.RunObjects.{SourceTold}

-- ---- no line was run

pub none_true : {M : Type 0} (h : drive.Ghosts M) (drives : List M) (history : List Entry) → history ≡ [] → AreTrue h drives (faults_in history)
none_true h drives history none = subst (λ (es : List Entry). AreTrue h drives (faults_in es)) (sym none) (record { each = tt; apart = tt })

-- ---- how it ended

-- A fault of the host has nothing to do with it.
pub ends_for : {T : Type 0} (HostFails DiskFails : Type 0) (source : SourceTold) (ran : Result T Cause) → IfErr ran (λ why. ScriptEnds ⊥ DiskFails source why) → IfErr ran (λ why. ScriptEnds HostFails DiskFails source why)
ends_for HostFails DiskFails source (Ok x) ends = tt
ends_for HostFails DiskFails source (Err (ScriptRefused line)) ends = ends
ends_for HostFails DiskFails source (Err ReadFault) ends = ends
ends_for HostFails DiskFails source (Err DiskFault) ends = ends
ends_for HostFails DiskFails source (Err HostFault) ends = absurd ends
ends_for HostFails DiskFails source (Err NoMemory) ends = tt
ends_for HostFails DiskFails source (Err WordsRefused) ends = absurd ends
ends_for HostFails DiskFails source (Err NotStore) ends = absurd ends
ends_for HostFails DiskFails source (Err (Corrupt place)) ends = absurd ends
ends_for HostFails DiskFails source (Err WriteFault) ends = absurd ends

-- where no drives came nothing was run
pub idle_none : {S V : Type 0} (history : S → List Entry) (old new : S) (ready : Result V Cause) → history old ≡ [] → OnErr ready (new ≡ old) → OnErr ready (history new ≡ [])
idle_none history old new (Ok x) none same = tt
idle_none history old new (Err why) none same = ap history same ∙ none
