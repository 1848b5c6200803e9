-- How the parts of a run end.
use Rattle.std.specs.Prelude.{ℕ, List, Option, Some, None, Result, IfSome}
use Rattle.std.specs.Result.{result_err}
use Rattle.disk_model.specs.Calls.{Rose}
use Rattle.commit_slots.specs.Images.{IsStore}
use Rattle.meta_store.specs.Images.{IsCorruptAt}
use Rattle.script_text.specs.Scripts.{IsFirstBad}
use Rattle.hsm_cli.specs.declared.causes.Cause.{Cause}
use Rattle.hsm_cli.specs.declared.causes.Cause.TheVariants.{ScriptRefused, NotStore, Corrupt, ReadFault, WriteFault, DiskFault, HostFault, NoMemory}
use Rattle.hsm_cli.specs.Sources.{script_bytes}
use Rattle.hsm_cli.specs.RunObjects.{SourceTold, SinkTold, HostTold}

-- what went wrong, if anything did
abbrev pub cause_in : {T : Type 0} → Result T Cause → Option Cause
cause_in result = result_err result

-- what can end a run before its script is read
abbrev pub IsBeforeReading : Cause → Type 0
IsBeforeReading HostFault = Unit {0}
IsBeforeReading NoMemory = Unit {0}
IsBeforeReading other = ⊥

-- why a script was not read or not run to its end, given what a fault of the host and one of the disk mean
abbrev pub ScriptEnds : Type 0 → Type 0 → SourceTold → Cause → Type 0
ScriptEnds HostFails DiskFails source (ScriptRefused line) = IfSome source.given (λ bytes. IsFirstBad (script_bytes bytes) line)
ScriptEnds HostFails DiskFails source ReadFault = Rose source.before source.now
ScriptEnds HostFails DiskFails source DiskFault = DiskFails
ScriptEnds HostFails DiskFails source HostFault = HostFails
ScriptEnds HostFails DiskFails source NoMemory = Unit {0}
ScriptEnds HostFails DiskFails source other = ⊥

-- why a transcript was not written
abbrev pub WritingEnds : SinkTold → Cause → Type 0
WritingEnds sink WriteFault = Rose sink.before sink.now
WritingEnds sink NoMemory = Unit {0}
WritingEnds sink other = ⊥

-- either
abbrev pub RunEnds : Type 0 → Type 0 → SourceTold → SinkTold → Option Cause → Type 0
RunEnds HostFails DiskFails source sink None = Unit {0}
RunEnds HostFails DiskFails source sink (Some WriteFault) = Rose sink.before sink.now
RunEnds HostFails DiskFails source sink (Some why) = ScriptEnds HostFails DiskFails source why

-- What went wrong first in running and writing. Want of memory for the transcript is told before all else, as then it isn't whole.
abbrev pub first_of : Option Cause → Option Cause → Option Cause
first_of ran (Some NoMemory) = Some NoMemory
first_of (Some why) written = Some why
first_of None written = written

-- why a disk was not formatted
abbrev pub FormatEnds : Type 0 → HostTold → Option Cause → Type 0
FormatEnds Fails host None = Unit {0}
FormatEnds Fails host (Some DiskFault) = Fails
FormatEnds Fails host (Some HostFault) = Rose host.before host.now
FormatEnds Fails host (Some NoMemory) = Unit {0}
FormatEnds Fails host (Some other) = ⊥

-- why drives were not handed out
abbrev pub HandingEnds : HostTold → Cause → Type 0
HandingEnds host HostFault = Rose host.before host.now
HandingEnds host NoMemory = Unit {0}
HandingEnds host other = ⊥

-- why a store was not shown, given what a fault of the host and one of the disk mean
abbrev pub ShowEnds : (List ℕ → Type 0) → Type 0 → Type 0 → SinkTold → Option Cause → Type 0
ShowEnds named HostFails DiskFails sink None = Unit {0}
ShowEnds named HostFails DiskFails sink (Some NotStore) = (image : List ℕ) → named image → (geometry fsid : ℕ) → IsStore geometry fsid image → ⊥
ShowEnds named HostFails DiskFails sink (Some (Corrupt place)) = (image : List ℕ) → named image → IsCorruptAt place image
ShowEnds named HostFails DiskFails sink (Some WriteFault) = Rose sink.before sink.now
ShowEnds named HostFails DiskFails sink (Some DiskFault) = DiskFails
ShowEnds named HostFails DiskFails sink (Some HostFault) = HostFails
ShowEnds named HostFails DiskFails sink (Some NoMemory) = Unit {0}
ShowEnds named HostFails DiskFails sink (Some other) = ⊥

-- why classes were not shown, given what a fault of a drive means
abbrev pub CountingEnds : Type 0 → SinkTold → Cause → Type 0
CountingEnds DriveFails sink HostFault = DriveFails
CountingEnds DriveFails sink WriteFault = Rose sink.before sink.now
CountingEnds DriveFails sink NoMemory = Unit {0}
CountingEnds DriveFails sink other = ⊥

-- why the lines of a drill were not run to their end, given what a fault of the disk means
abbrev pub LinesEnd : Type 0 → Cause → Type 0
LinesEnd DiskFails DiskFault = DiskFails
LinesEnd DiskFails NoMemory = Unit {0}
LinesEnd DiskFails other = ⊥
