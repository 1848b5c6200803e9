-- What a run to its end leaves.
use Rattle.std.proofs.Common.{◌≡◌, ℕ, ◌+◌, List, Option, Some, None, Result, Ok, Err, OnOk, IfErr, refl, sym, ◌∙◌, subst}
use Rattle.plain_model.specs.State.{Held}
use Rattle.plain_model.specs.Exact.{held_by}
use Rattle.plain_model.specs.Synced.{synced}
use Rattle.file_store.specs.Stores.{superblock_of, IsRecovered, IsDurable}
use Rattle.file_store.specs.Laws.{RecoversOne}
use Rattle.hsm_core.specs.Store.{Store}
use Rattle.hsm_core.specs.Crashes.{IsPrefix}
use Rattle.hsm_cli.specs.declared.causes.Cause.{Cause}
use Rattle.hsm_cli.specs.declared.causes.Cause.TheVariants.{ScriptRefused, WordsRefused, NotStore, Corrupt, ReadFault, WriteFault, DiskFault}
use Rattle.hsm_cli.specs.declared.causes.Cause.TheVariants.{HostFault, NoMemory}
use Rattle.hsm_replay.specs.Running.{IsAllDurable}
use Rattle.hsm_cli.specs.Clauses.{IsWhole, RanToItsEnd}
use Rattle.hsm_cli.specs.Endings.{cause_in, first_of, ScriptEnds}
use Rattle.hsm_cli.specs.RunObjects.{SourceTold}

-- ---- what a run to the end leaves

-- no cause of the run itself is one of writing
not_to_end : (HostFails DiskFails : Type 0) (source : SourceTold) (why : Cause) → ScriptEnds HostFails DiskFails source why → RanToItsEnd (Some why) → ⊥
not_to_end HostFails DiskFails source WriteFault ends to_end = ends
not_to_end HostFails DiskFails source (ScriptRefused line) ends to_end = to_end
not_to_end HostFails DiskFails source WordsRefused ends to_end = to_end
not_to_end HostFails DiskFails source NotStore ends to_end = to_end
not_to_end HostFails DiskFails source (Corrupt place) ends to_end = to_end
not_to_end HostFails DiskFails source ReadFault ends to_end = to_end
not_to_end HostFails DiskFails source DiskFault ends to_end = to_end
not_to_end HostFails DiskFails source HostFault ends to_end = to_end
not_to_end HostFails DiskFails source NoMemory ends to_end = to_end

-- it is told first, unless memory was wanting
first_to_end : (why : Cause) (written : Option Cause) → RanToItsEnd (first_of (Some why) written) → RanToItsEnd (Some why)
first_to_end why None to_end = to_end
first_to_end why (Some NoMemory) to_end = absurd to_end
first_to_end why (Some (ScriptRefused line)) to_end = to_end
first_to_end why (Some WordsRefused) to_end = to_end
first_to_end why (Some NotStore) to_end = to_end
first_to_end why (Some (Corrupt place)) to_end = to_end
first_to_end why (Some ReadFault) to_end = to_end
first_to_end why (Some WriteFault) to_end = to_end
first_to_end why (Some DiskFault) to_end = to_end
first_to_end why (Some HostFault) to_end = to_end

pub ran_well : {T : Type 0} (HostFails DiskFails : Type 0) (source : SourceTold) (ran : Result T Cause) (written : Option Cause) → IfErr ran (λ why. ScriptEnds HostFails DiskFails source why) → RanToItsEnd (first_of (cause_in ran) written) → cause_in ran ≡ None
ran_well HostFails DiskFails source (Ok x) written ends to_end = refl
ran_well HostFails DiskFails source (Err why) written ends to_end = absurd (not_to_end HostFails DiskFails source why ends (first_to_end why written to_end))

pub on_none : {T : Type 0} (A : Type 0) (result : Result T Cause) → cause_in result ≡ None → OnOk result A → A
on_none A (Ok x) none on = on
on_none A (Err why) none on = absurd cc

-- What recovery finds on an image where the first entries are found, and the last files that were made durable, which are those that the store holds.
pub whole : {D : Type 0} (s : Store D) (image : List ℕ) → RecoversOne image → IsAllDurable s → s.files.held ≡ held_by (superblock_of s.opened) s.opened.meta.number s.opened.held s.history
    → IsPrefix s.opened s.history (synced s.history) image → IsDurable s.files image → IsWhole s.opened s.history image
whole s image one all holds first durable =
    let same = one _ _ _ _ _ _ _ _ first.found durable in
    let recovered : ℕ → Held → Type 0 = λ n h. IsRecovered s.opened.meta.durable.geometry s.opened.meta.fsid n h image in
    let held : Held = held_by (superblock_of s.opened) s.opened.meta.number s.opened.held s.history in
    subst (λ (n : ℕ). recovered n held) (sym same.2 ∙ all.number)
    (subst (λ (h : Held). recovered (s.opened.meta.number + first.n) h) (sym same.3 ∙ all.held ∙ holds) first.found)
