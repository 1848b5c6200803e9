-- A store that was to be formatted.
use Rattle.std.proofs.Common.{ℕ, ◌≡◌, ◌⊎◌, inl, inr, List, Option, Some, None, refl, subst}
use Rattle.disk_model.specs.declared.device.Disk as disk
use Rattle.disk_model.specs.Calls.{Rose}
use Rattle.media_model.specs.declared.drive.Drive as drive
use Rattle.command_words.specs.Commands.{Format}
use Rattle.command_words.specs.declared.commands.StoreSize.{StoreSize}
use Rattle.hsm_cli.specs.declared.causes.Cause.{Cause}
use Rattle.hsm_cli.specs.declared.causes.Cause.TheVariants.{ScriptRefused, WordsRefused, NotStore, Corrupt, ReadFault, WriteFault, DiskFault}
use Rattle.hsm_cli.specs.declared.causes.Cause.TheVariants.{HostFault, NoMemory}
use Rattle.hsm_cli.specs.declared.outcomes.Outcome.{Outcome}
use Rattle.hsm_cli.specs.Statuses.{status_of, place_of}
use Rattle.hsm_cli.specs.RunObjects.{SourceTold, SinkTold, HostTold}
use Rattle.hsm_cli.specs.Endings.{FormatEnds}
use Rattle.hsm_cli.specs.Clauses.{HasFailed, Why, CanEnd, StatusClause}

-- what holds of the cause, by how it ended
formatted_by : (P : Option Cause → Type 0) (DiskFails : Type 0) (host : HostTold) (cause : Option Cause) → P None → (DiskFails → P (Some DiskFault)) → (Rose host.before host.now → P (Some HostFault)) → P (Some NoMemory) → FormatEnds DiskFails host cause → P cause
formatted_by P DiskFails host None well by_disk by_host memory ends = well
formatted_by P DiskFails host (Some DiskFault) well by_disk by_host memory ends = by_disk ends
formatted_by P DiskFails host (Some HostFault) well by_disk by_host memory ends = by_host ends
formatted_by P DiskFails host (Some NoMemory) well by_disk by_host memory ends = memory
formatted_by P DiskFails host (Some (ScriptRefused line)) well by_disk by_host memory ends = absurd ends
formatted_by P DiskFails host (Some WordsRefused) well by_disk by_host memory ends = absurd ends
formatted_by P DiskFails host (Some NotStore) well by_disk by_host memory ends = absurd ends
formatted_by P DiskFails host (Some (Corrupt place)) well by_disk by_host memory ends = absurd ends
formatted_by P DiskFails host (Some ReadFault) well by_disk by_host memory ends = absurd ends
formatted_by P DiskFails host (Some WriteFault) well by_disk by_host memory ends = absurd ends

pub status_format : {D M : Type 0} (g : disk.Ghosts D) (h : drive.Ghosts M) (holds : List ℕ → List ℕ → Type 0) (source : SourceTold) (sink : SinkTold) (host : HostTold) (o : Outcome D M) (path : List ℕ) (size : StoreSize)
    → (o.status ≡ status_of o.cause) × (o.at ≡ place_of o.cause) → (o.opening ≡ None) × (o.base ≡ 0)
    → (o.cause ≡ Some HostFault → o.disk ≡ None) → (o.disk ≡ None → (o.cause ≡ Some HostFault) ⊎ (o.cause ≡ Some NoMemory)) → FormatEnds (HasFailed g o.disk) host o.cause → StatusClause g h (Some (Format path size)) holds source sink host o
status_format g h holds source sink host o path size told new lent back ends = record {
  status = told.0;
  place = told.1;
  base = rw new.0 new.1;
  words = λ refused. absurd (subst (FormatEnds (HasFailed g o.disk) host) refused ends);
  no_words = λ wrong. absurd cc;
  why = formatted_by (Why g (λ _. ⊥) (Rose host.before host.now) source sink o.disk) (HasFailed g o.disk) host o.cause tt (λ failed. failed) (λ failed. failed) tt ends;
  forms = formatted_by (CanEnd (Some (Format path size))) (HasFailed g o.disk) host o.cause tt (λ failed. tt) (λ failed. tt) tt ends;
  begun = λ opens. absurd opens;
  lent = λ fault. inl (lent fault);
  back = λ names. back;
  opened = rw new.0 tt;
  refused = λ image named. absurd named;
  complete = λ store script works. formatted_by (λ c. (c ≡ None) ⊎ (c ≡ Some NoMemory)) (HasFailed g o.disk) host o.cause (inl refl) (λ failed. absurd (works.disk_works failed)) (λ failed. absurd (works.host_works failed)) (inr refl) ends;
}
