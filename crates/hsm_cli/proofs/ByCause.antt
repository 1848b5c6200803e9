-- What holds of a cause, by what can end a run so.
use Rattle.std.proofs.Common.{ℕ, List, Option, Some, None, IfSome, Result, Ok, Err, IfErr}
use Rattle.disk_model.specs.Calls.{Rose}
use Rattle.commit_slots.specs.Images.{IsStore}
use Rattle.meta_store.specs.Images.{IsCorruptAt}
use Rattle.hsm_cli.specs.declared.causes.Cause.{Cause}
use Rattle.hsm_cli.specs.declared.causes.Cause.TheVariants.{ScriptRefused, WordsRefused, NotStore, Corrupt, ReadFault, WriteFault, DiskFault}
use Rattle.hsm_cli.specs.declared.causes.Cause.TheVariants.{HostFault, NoMemory}
use Rattle.hsm_cli.specs.RunObjects.{SinkTold}
use Rattle.hsm_cli.specs.Endings.{cause_in, WritingEnds, ShowEnds, CountingEnds}

-- where a text was to be written
pub written_by : (P : Option Cause → Type 0) (sink : SinkTold) (cause : Option Cause) → P None → (Rose sink.before sink.now → P (Some WriteFault)) → P (Some NoMemory) → IfSome cause (WritingEnds sink) → P cause
written_by P sink None well fault memory ends = well
written_by P sink (Some WriteFault) well fault memory ends = fault ends
written_by P sink (Some NoMemory) well fault memory ends = memory
written_by P sink (Some (ScriptRefused line)) well fault memory ends = absurd ends
written_by P sink (Some WordsRefused) well fault memory ends = absurd ends
written_by P sink (Some NotStore) well fault memory ends = absurd ends
written_by P sink (Some (Corrupt place)) well fault memory ends = absurd ends
written_by P sink (Some ReadFault) well fault memory ends = absurd ends
written_by P sink (Some DiskFault) well fault memory ends = absurd ends
written_by P sink (Some HostFault) well fault memory ends = absurd ends

pub if_told : {T : Type 0} (P : Cause → Type 0) (ended : Result T Cause) → IfErr ended P → IfSome (cause_in ended) P
if_told P (Ok x) ends = tt
if_told P (Err why) ends = ends

-- where classes were to be counted before
counted_as : (P : Option Cause → Type 0) (DriveFails : Type 0) (sink : SinkTold) (cause : Option Cause) → P None → (Rose sink.before sink.now → P (Some WriteFault)) → (DriveFails → P (Some HostFault)) → P (Some NoMemory) → IfSome cause (CountingEnds DriveFails sink) → P cause
counted_as P DriveFails sink None well fault failed memory ends = well
counted_as P DriveFails sink (Some WriteFault) well fault failed memory ends = fault ends
counted_as P DriveFails sink (Some HostFault) well fault failed memory ends = failed ends
counted_as P DriveFails sink (Some NoMemory) well fault failed memory ends = memory
counted_as P DriveFails sink (Some (ScriptRefused line)) well fault failed memory ends = absurd ends
counted_as P DriveFails sink (Some WordsRefused) well fault failed memory ends = absurd ends
counted_as P DriveFails sink (Some NotStore) well fault failed memory ends = absurd ends
counted_as P DriveFails sink (Some (Corrupt place)) well fault failed memory ends = absurd ends
counted_as P DriveFails sink (Some ReadFault) well fault failed memory ends = absurd ends
counted_as P DriveFails sink (Some DiskFault) well fault failed memory ends = absurd ends

pub counted_by : {T : Type 0} (P : Option Cause → Type 0) (DriveFails : Type 0) (sink : SinkTold) (ended : Result T Cause) → P None → (Rose sink.before sink.now → P (Some WriteFault)) → (DriveFails → P (Some HostFault)) → P (Some NoMemory) → IfErr ended (CountingEnds DriveFails sink) → P (cause_in ended)
counted_by P DriveFails sink ended well fault failed memory ends = counted_as P DriveFails sink (cause_in ended) well fault failed memory (if_told (CountingEnds DriveFails sink) ended ends)

-- where the store was to be read
module _ (held : List ℕ → Type 0) (HostFails DiskFails : Type 0) (sink : SinkTold) where
  pub shown_by : (P : Option Cause → Type 0) (cause : Option Cause) → P None → (((c : List ℕ) → held c → (geometry fsid : ℕ) → IsStore geometry fsid c → ⊥) → P (Some NotStore)) → ((place : ℕ) → ((c : List ℕ) → held c → IsCorruptAt place c) → P (Some (Corrupt place)))
      → (Rose sink.before sink.now → P (Some WriteFault)) → (DiskFails → P (Some DiskFault)) → (HostFails → P (Some HostFault)) → P (Some NoMemory) → ShowEnds held HostFails DiskFails sink cause → P cause
  shown_by P None well no_store corrupt fault by_disk by_host memory ends = well
  shown_by P (Some NotStore) well no_store corrupt fault by_disk by_host memory ends = no_store ends
  shown_by P (Some (Corrupt place)) well no_store corrupt fault by_disk by_host memory ends = corrupt place ends
  shown_by P (Some WriteFault) well no_store corrupt fault by_disk by_host memory ends = fault ends
  shown_by P (Some DiskFault) well no_store corrupt fault by_disk by_host memory ends = by_disk ends
  shown_by P (Some HostFault) well no_store corrupt fault by_disk by_host memory ends = by_host ends
  shown_by P (Some NoMemory) well no_store corrupt fault by_disk by_host memory ends = memory
  shown_by P (Some (ScriptRefused line)) well no_store corrupt fault by_disk by_host memory ends = absurd ends
  shown_by P (Some WordsRefused) well no_store corrupt fault by_disk by_host memory ends = absurd ends
  shown_by P (Some ReadFault) well no_store corrupt fault by_disk by_host memory ends = absurd ends
