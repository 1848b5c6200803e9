-- A store on a disk of the host: what a crash leaves, and why it isn't opened.
use Rattle.std.proofs.Common.{ℕ, ◌≡◌, ◌≢◌, ◌+◌, ◌⊎◌, inl, inr, List, Option, Some, None, refl, sym, subst, arith}
use Rattle.disk_model.specs.declared.device.Disk as disk
use Rattle.disk_model.specs.declared.refusal.OpenRefusal.{OpenRefusal}
use Rattle.disk_model.specs.declared.refusal.OpenRefusal.TheVariants as opening
use Rattle.disk_model.specs.Calls.{RoseByOne}
use Rattle.disk_model.specs.Images.{Alike}
use Rattle.disk_model.specs.Moments.{MayBe, LeavesOnly, Keeps, Same}
use Rattle.disk_model.proofs.Steps.{joined, holds_on}
use Rattle.commit_slots.specs.Images.{IsStore}
use Rattle.meta_store.specs.Images.{IsCorruptAt}
use Rattle.plain_model.specs.declared.entries.Entry.{Entry}
use Rattle.plain_model.specs.State.{Held}
use Rattle.plain_model.specs.Synced.{synced}
use Rattle.file_store.specs.Stores.{Store, IsRecovered, IsDurable}
use Rattle.hsm_core.specs.Crashes.{IsPrefix}
use Rattle.hosts.specs.Hosts.{IsHanded}
use Rattle.hsm_cli.specs.Statuses.{cause_of_refusal, cause_of_host}
use Rattle.hsm_cli.specs.RunObjects.{SourceTold, SinkTold}
use Rattle.hsm_cli.specs.declared.causes.Cause.{Cause}
use Rattle.hsm_cli.specs.declared.causes.Cause.TheVariants.{WordsRefused, HostFault, NoMemory}
use Rattle.hosts.specs.declared.outside.HostRefusal.{HostRefusal}
use Rattle.hosts.specs.declared.outside.HostRefusal.TheVariants as handing
use Rattle.hsm_cli.specs.Clauses.{IsCrashSafe, IsWhole, IsBeforeRun, RanToItsEnd, HasBegun, Why}
use Rattle.hsm_cli.proofs.Running.{failed_since}

plus_nothing : (n : ℕ) → n ≡ n + 0
plus_nothing n = omega arith

-- what was opened is what no entry has left yet
opened_prefix : {D : Type 0} (s : Store D) (history : List Entry) (c : List ℕ) → s.held ≡ s.durable → IsDurable s c → IsPrefix s history 0 c
opened_prefix s history c same durable = record {
  n = 0;
  from = omega arith;
  to = omega arith;
  found = subst (λ (n : ℕ). IsRecovered s.meta.durable.geometry s.meta.fsid n s.held c) (plus_nothing s.meta.number)
      (subst (λ (h : Held). IsRecovered s.meta.durable.geometry s.meta.fsid s.meta.number h c) (sym same) durable);
}

module _ {D : Type 0} (g : disk.Ghosts D) (held : List ℕ → Type 0) (handed : D) (by_host : IsHanded g held handed) where
  -- each image of the disk that was handed out
  handed_prefix : (s : Store D) (history : List Entry) → Alike (g.gives handed) (g.gives s.disk) → ((c : List ℕ) → MayBe g s.disk c → IsDurable s c) → s.held ≡ s.durable
      → (c : List ℕ) → MayBe g handed c → IsPrefix s history 0 c
  handed_prefix s history alike durable same c (inl left) = opened_prefix s history c same (durable c (inr (alike.1 c (by_host.settled c left))))
  handed_prefix s history alike durable same c (inr given) = opened_prefix s history c same (durable c (inr (alike.1 c given)))

  safe_from : (s : Store D) (history : List Entry) (cause : Option Cause) (disk : D) → Keeps g handed s.disk Same → Alike (g.gives handed) (g.gives s.disk) → ((c : List ℕ) → MayBe g s.disk c → IsDurable s c) → s.held ≡ s.durable
      → LeavesOnly g s.disk disk (IsPrefix s history 0) → ((c : List ℕ) → MayBe g disk c → IsPrefix s history (synced history) c)
      → (RanToItsEnd cause → (c : List ℕ) → MayBe g disk c → IsWhole s history c) → (IsBeforeRun cause → disk ≡ s.disk) → IsCrashSafe g held s history cause disk
  safe_from s history cause disk keeps alike durable same since now whole untouched =
      let P : List ℕ → Type 0 = IsPrefix s history 0 in
      record {
        handed = handed;
        by_host = by_host;
        since = joined g handed s.disk disk P (holds_on g handed s.disk Same P P keeps (handed_prefix s history alike durable same) (λ d c p is. subst P (sym is) p)) since;
        now = now;
        whole = whole;
        untouched = λ before. subst (λ (d : D). Keeps g handed d Same) (sym (untouched before)) keeps;
      }

  -- of the store as it was opened, whose files were these
  pub crash_safe : (s files : Store D) (history : List Entry) (cause : Option Cause) (disk : D) → s ≡ files → Keeps g handed files.disk Same → Alike (g.gives handed) (g.gives files.disk)
      → ((c : List ℕ) → MayBe g files.disk c → IsDurable files c) → files.held ≡ files.durable
      → LeavesOnly g s.disk disk (IsPrefix s history 0) → ((c : List ℕ) → MayBe g disk c → IsPrefix s history (synced history) c)
      → (RanToItsEnd cause → (c : List ℕ) → MayBe g disk c → IsWhole s history c) → (IsBeforeRun cause → disk ≡ files.disk) → IsCrashSafe g held s history cause disk
  crash_safe s files history cause disk is keeps alike durable same since now whole untouched =
      subst (λ (x : Store D). LeavesOnly g x.disk disk (IsPrefix x history 0) → ((c : List ℕ) → MayBe g disk c → IsPrefix x history (synced history) c)
      → (RanToItsEnd cause → (c : List ℕ) → MayBe g disk c → IsWhole x history c) → IsCrashSafe g held x history cause disk) (sym is)
      (λ since now whole. safe_from files history cause disk keeps alike durable same since now whole untouched) since now whole

  -- why the disk isn't opened
  pub why_unopened : (Fails : Type 0) (source : SourceTold) (sink : SinkTold) (disk : D) (refusal : OpenRefusal)
      → (refusal ≡ opening.NotStore → (c : List ℕ) → g.gives handed c → (geometry fsid : ℕ) → IsStore geometry fsid c → ⊥)
      → ((place : ℕ) → refusal ≡ opening.Corrupt place → (c : List ℕ) → g.gives handed c → IsCorruptAt place c)
      → (refusal ≡ opening.Disk → RoseByOne (g.fault_count handed) (g.fault_count disk))
      → Why g held Fails source sink (Some disk) (Some (cause_of_refusal refusal))
  why_unopened Fails source sink disk opening.NotStore not_store corrupt failed = λ c holds. not_store refl c (by_host.given c holds)
  why_unopened Fails source sink disk (opening.Corrupt place) not_store corrupt failed = λ c holds. corrupt place refl c (by_host.given c holds)
  why_unopened Fails source sink disk opening.Disk not_store corrupt failed = failed_since g (g.fault_count handed) disk by_host.counted (failed refl)
  why_unopened Fails source sink disk opening.Memory not_store corrupt failed = tt

-- why it isn't handed out
pub why_unhanded : {D : Type 0} (g : disk.Ghosts D) (held : List ℕ → Type 0) (Fails : Type 0) (source : SourceTold) (sink : SinkTold) (disk : Option D) (refusal : HostRefusal) → (refusal ≡ handing.Failed → Fails)
    → Why g held Fails source sink disk (Some (cause_of_host refusal))
why_unhanded g held Fails source sink disk handing.Failed fails = fails refl
why_unhanded g held Fails source sink disk handing.Memory fails = tt

pub back_unhanded : (refusal : HostRefusal) → (Some (cause_of_host refusal) ≡ Some HostFault) ⊎ (Some (cause_of_host refusal) ≡ Some NoMemory)
back_unhanded handing.Failed = inl refl
back_unhanded handing.Memory = inr refl

pub words_unhanded : (refusal : HostRefusal) → Some (cause_of_host refusal) ≢ Some WordsRefused
words_unhanded handing.Failed is = cc
words_unhanded handing.Memory is = cc

pub begun_unhanded : (S : Type 0) (refusal : HostRefusal) → HasBegun {S = S} None (Some (cause_of_host refusal))
begun_unhanded S handing.Failed = tt
begun_unhanded S handing.Memory = tt

pub words_unopened : (refusal : OpenRefusal) → Some (cause_of_refusal refusal) ≢ Some WordsRefused
words_unopened opening.NotStore is = cc
words_unopened (opening.Corrupt place) is = cc
words_unopened opening.Disk is = cc
words_unopened opening.Memory is = cc

pub begun_unopened : (S : Type 0) (refusal : OpenRefusal) → HasBegun {S = S} None (Some (cause_of_refusal refusal))
begun_unopened S opening.NotStore = refl
begun_unopened S (opening.Corrupt place) = refl
begun_unopened S opening.Disk = tt
begun_unopened S opening.Memory = tt
