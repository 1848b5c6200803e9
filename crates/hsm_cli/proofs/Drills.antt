-- A drill on a new store.
use Rattle.std.proofs.Common.{◌≡◌, ◌≢◌, ◌⊎◌, inl, inr, ℕ, false, List, [], Option, Some, None, Result, Ok, Err, IfErr, IfSome}
use Rattle.std.proofs.Common.{refl, sym, ◌∙◌, ap, subst}
use Rattle.disk_model.specs.declared.device.Disk as disk
use Rattle.disk_model.specs.Calls.{Rose}
use Rattle.media_model.specs.declared.drive.Drive as drive
use Rattle.hsm_types.specs.declared.stores.Superblock.{Superblock}
use Rattle.plain_model.specs.declared.entries.Entry.{Entry}
use Rattle.plain_model.specs.Exact.{held_by}
use Rattle.plain_model.specs.State.{Held, nothing_held, used}
use Rattle.drill_script.specs.Summary.{summary_line}
use Rattle.file_store.specs.Stores.{Store, superblock_of}
use Rattle.hsm_core.specs.Kept.{IsKept}
use Rattle.hsm_core.specs.Store.{Store as HsmStore}
use Rattle.hsm_core.specs.Summaries.{offline_of}
use Rattle.hsm_cli.specs.declared.causes.Cause.{Cause}
use Rattle.hsm_cli.specs.declared.causes.Cause.TheVariants.{ScriptRefused, WordsRefused, NotStore, Corrupt, ReadFault, WriteFault, DiskFault}
use Rattle.hsm_cli.specs.declared.causes.Cause.TheVariants.{HostFault, NoMemory}
use Rattle.hsm_cli.specs.declared.outcomes.Outcome.{Outcome}
use Rattle.hsm_cli.specs.Statuses.{status_of, place_of}
use Rattle.hsm_cli.specs.RunObjects.{SourceTold, SinkTold, HostTold}
use Rattle.hsm_cli.specs.Endings.{cause_in, WritingEnds, LinesEnd}
use Rattle.hsm_cli.specs.Openings.{replay_store}
use Rattle.hsm_cli.specs.Texts.{HasLeft, held_after, drill_text}
use Rattle.hsm_cli.specs.Clauses.{Why, CanEnd, StatusClause}
use Rattle.command_words.specs.Commands.{Drill}
use Rattle.hsm_cli.proofs.ByCause.{written_by}

-- ---- how it ended

-- a disk that never fails ends no lines
pub for_memory : {T : Type 0} (DiskFails : Type 0) (ended : Result T Cause) → (DiskFails → ⊥) → IfErr ended (LinesEnd DiskFails) → IfErr ended (λ why. why ≡ NoMemory)
for_memory DiskFails (Ok x) works ends = tt
for_memory DiskFails (Err NoMemory) works ends = refl
for_memory DiskFails (Err DiskFault) works ends = absurd (works ends)
for_memory DiskFails (Err (ScriptRefused line)) works ends = absurd ends
for_memory DiskFails (Err WordsRefused) works ends = absurd ends
for_memory DiskFails (Err NotStore) works ends = absurd ends
for_memory DiskFails (Err (Corrupt place)) works ends = absurd ends
for_memory DiskFails (Err ReadFault) works ends = absurd ends
for_memory DiskFails (Err WriteFault) works ends = absurd ends
for_memory DiskFails (Err HostFault) works ends = absurd ends

pub no_fault : {T : Type 0} (ended : Result T Cause) → IfErr ended (λ why. why ≡ NoMemory) → cause_in ended ≢ Some DiskFault
no_fault (Ok x) memory is = cc
no_fault (Err why) memory is = let wrong : Some DiskFault ≡ Some NoMemory = sym is ∙ ap (λ (w : Cause). Some w) memory in cc

-- what it has left in a store that works
pub has_left : {D : Type 0} (g : disk.Ghosts D) (s : HsmStore D) (opened : Store D) (blocks segments : ℕ) → s.opened ≡ opened → IsKept g s → s.files.failed ≡ false → blocks ≡ used s.files.held.files → segments ≡ offline_of s.files.held.files
    → HasLeft (held_by (superblock_of opened) opened.meta.number opened.held s.history) blocks segments
has_left {D} g s opened blocks segments is kept working blocks_are segments_are =
    let same : s.files.held ≡ held_by (superblock_of s.opened) s.opened.meta.number s.opened.held s.history = ap (λ st. st.held) (kept.state working) in
    subst (λ (o : Store D). HasLeft (held_by (superblock_of o) o.meta.number o.held s.history) blocks segments) is
    (record { are_used = blocks_are ∙ ap (λ (h : Held). used h.files) same; are_offline = segments_are ∙ ap (λ (h : Held). offline_of h.files) same })

-- in a new store
pub left_new : {D : Type 0} (s : Store D) (history : List Entry) (blocks segments : ℕ) → superblock_of s ≡ replay_store → s.held ≡ nothing_held → s.meta.number ≡ 0
    → HasLeft (held_by (superblock_of s) s.meta.number s.held history) blocks segments → HasLeft (held_after history) blocks segments
left_new s history blocks segments superblock held number left =
    subst (λ (h : Held). HasLeft (held_by replay_store 0 h history) blocks segments) held
    (subst (λ (n : ℕ). HasLeft (held_by replay_store n s.held history) blocks segments) number (subst (λ (x : Superblock). HasLeft (held_by x s.meta.number s.held history) blocks segments) superblock left))

-- and the line tells that
pub tells_left : (number : ℕ) (history : List Entry) (blocks segments : ℕ) (text : List ℕ) → HasLeft (held_after history) blocks segments → text ≡ summary_line number history blocks segments → text ≡ drill_text number history
tells_left number history blocks segments text left is =
    is ∙ ap (λ (n : ℕ). summary_line number history n segments) left.are_used ∙ ap (λ (n : ℕ). summary_line number history (used (held_after history).files) n) left.are_offline

-- ---- when each status comes

pub status_drill : {D M : Type 0} (g : disk.Ghosts D) (h : drive.Ghosts M) (holds : List ℕ → List ℕ → Type 0) (source : SourceTold) (sink : SinkTold) (host : HostTold) (o : Outcome D M) (number : ℕ) → (o.status ≡ status_of o.cause) × (o.at ≡ place_of o.cause)
    → (o.opening ≡ None) × (o.disk ≡ None) × (o.base ≡ 0) × (o.drives ≡ []) → IfSome o.cause (WritingEnds sink) → StatusClause g h (Some (Drill number)) holds source sink host o
status_drill g h holds source sink host o number told new ends = record {
  status = told.0;
  place = told.1;
  base = rw new.0 new.2;
  words = λ is. absurd (subst (λ (c : Option Cause). IfSome c (WritingEnds sink)) is ends);
  no_words = λ is. absurd cc;
  why = written_by (Why g (λ _. ⊥) (Rose host.before host.now) source sink o.disk) sink o.cause tt (λ rose. rose) tt ends;
  forms = written_by (CanEnd (Some (Drill number))) sink o.cause tt (λ rose. tt) tt ends;
  begun = λ opens. absurd opens;
  lent = λ is. inl new.1;
  back = λ names. absurd names;
  opened = rw new.0 tt;
  refused = λ image is. absurd is;
  complete = λ store script works. written_by (λ c. (c ≡ None) ⊎ (c ≡ Some NoMemory)) sink o.cause (inl refl) (λ rose. absurd (works.sink_works rose)) (inr refl) ends;
}
