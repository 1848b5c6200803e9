-- What the settles of lines have come to, line by line.
use Rattle.std.proofs.Common.{◌≡◌, ◌∙◌, ℕ, List, [], ◌∷◌, ◌++◌, Option, IfSome, Some, None, is_some, option_map, refl}
use Rattle.std.proofs.Common.{sym, ap, ap₂, subst, append_assoc, append-nil}
use Rattle.media_model.specs.declared.drive.Drive as drive
use Rattle.hsm_types.specs.declared.daemons.Daemon.{Daemon}
use Rattle.hsm_types.specs.declared.daemons.Daemon.TheVariants.{Recall, Migrate}
use Rattle.script_text.specs.declared.lines.Line.{Line}
use Rattle.hsm_types.specs.declared.stores.Superblock.{Superblock}
use Rattle.plain_model.specs.declared.entries.Entry.{Entry}
use Rattle.plain_model.specs.State.{State, just_opened}
use Rattle.hsm_policy.specs.Settings.{Numbers}
use Rattle.file_store.specs.Stores.{Store as FileStore, superblock_of}
use Rattle.hsm_system.specs.Running.{Recalling, Migrating}
use Rattle.deeds.specs.Deeds.{Deed}
use Rattle.deeds.specs.Given.{Given, given_of}
use Rattle.marked_history.specs.Follows.{IsPartOf}
use Rattle.marked_history.specs.Marks.{Mark}
use Rattle.marked_history.specs.Quiet.{is_quiet}
use Rattle.marked_history.specs.Served.{shown, nothing_shown}
use Rattle.marked_history.specs.Settling.{none_run, running_by, running_behind, AreByRunning, LeavesSettled, EachSettles}
use Rattle.marked_history.specs.Waiting.{Running, runs}
use Rattle.hsm_replay.specs.Deeds.{given_now}
use Rattle.hsm_replay.specs.Faults.{faults_in, AreTrue}
use Rattle.hsm_replay.specs.Keeping.{RecallKnows, MigrateKnows, Shows}
use Rattle.hsm_replay.specs.Marking.{marks_of}
use Rattle.hsm_replay.specs.Parts.{IsLinePart}
use Rattle.hsm_replay.specs.Resting.{first_of}
use Rattle.hsm_replay.specs.Sealed.{HearsLost, HearsStored, Tallies}
use Rattle.hsm_replay.specs.Systems.{Run, running, told_next}
use Rattle.hsm_replay.proofs.Growing.{have_grown_itself}
use Rattle.hsm_replay.proofs.Marking.{marks_then}
use Rattle.hsm_replay.proofs.MarkKinds.{line_marks, line_by_behind}
use Rattle.hsm_cli.specs.Follows.{SettlesSince}
use Rattle.hsm_cli.specs.Runs.{IsReady}

-- the lines that were run, and one more with what it has come to
push_settled : (limits : Numbers) (s : Superblock) (first : State) (r : Running) (before : List Mark) (lines : List Line) (marks : List Mark) (line : Line) (part : List Mark) → EachSettles limits s first r before lines marks → IsPartOf line part
    → AreByRunning (running_by line (running_behind lines r)) part → LeavesSettled limits s first line (running_by line (running_behind lines r)) (before ++ marks) part → EachSettles limits s first r before (lines ++ line ∷ []) (marks ++ part)
push_settled limits s first r before [] marks line part none is by left =
    let here : before ++ marks ≡ before = ap (λ (ms : List Mark). before ++ ms) none ∙ append-nil before in
    (part, ([], (ap (λ (ms : List Mark). ms ++ part) none ∙ sym (append-nil part), is, by, subst (λ (ms : List Mark). LeavesSettled limits s first line (running_by line r) ms part) here left, refl)))
push_settled limits s first r before (x ∷ lines) marks line part each is by left =
    let rest : List Mark = each.1.0 in
    let here : before ++ marks ≡ (before ++ each.0) ++ rest = ap (λ (ms : List Mark). before ++ ms) each.1.1.0 ∙ sym (append_assoc before each.0 rest) in
    let left_here = subst (λ (ms : List Mark). LeavesSettled limits s first line (running_by line (running_behind lines (running_by x r))) ms part) here left in (
      each.0,
      (rest ++ part, (ap (λ (ms : List Mark). ms ++ part) each.1.1.0 ∙ append_assoc each.0 rest part, each.1.1.1, each.1.1.2, each.1.1.3, push_settled limits s first (running_by x r) (before ++ each.0) lines rest line part each.1.1.4 is by left_here)),
    )

pub running_push : (lines : List Line) (line : Line) (r : Running) → running_behind (lines ++ line ∷ []) r ≡ running_by line (running_behind lines r)
running_push [] line r = refl
running_push (x ∷ lines) line r = running_push lines line (running_by x r)

-- ---- the beginning

pub no_mark : (before : List Mark) (m : Mark) (rest : List Mark) → [] ≡ before ++ m ∷ rest → ⊥
no_mark [] m rest is = let wrong : [] ≡ m ∷ rest = is in cc wrong
no_mark (x ∷ before) m rest is = let wrong : [] ≡ x ∷ (before ++ m ∷ rest) = is in cc wrong

pub running_none : {D M : Type 0} (s : Run D M) → IsReady s → running s ≡ none_run
running_none s ready = ap₂ (λ (r : Option Recalling) (m : Option Migrating). record { recall = is_some r; migrate = is_some m }) ready.recall ready.migrate

module _ {M : Type 0} (h : drive.Ghosts M) where
  pub tallies_none : (limits : Numbers) (drives : List M) → Tallies h drives drives limits []
  tallies_none limits drives = record {
    grown = have_grown_itself h drives;
    stored = tt;
    aborts = λ before sid t reply rest is. absurd (no_mark before _ rest is);
    damages = λ before sid t volume object want got reply rest is. absurd (no_mark before _ rest is);
  }

module _ {D M : Type 0} (h : drive.Ghosts M) where
  no_faults : (s : Run D M) → s.system.store.history ≡ [] → AreTrue h s.drives (faults_in s.system.store.history)
  no_faults s none = subst (λ (es : List Entry). AreTrue h s.drives (faults_in es)) (sym none) (record { each = tt; apart = tt })

  -- before the first line no mark is there, and that shows the run
  pub shown_none : (s : Run D M) → IsReady s → Shows h s.drives [] s
  shown_none s ready = record {
    marked = record {
      entries = sym ready.store.history;
      served = tt;
      faults = no_faults s ready.store.history;
      sealed = tallies_none h s.system.limits s.drives;
    };
    recall = subst (λ (o : Option Recalling). IfSome o (RecallKnows h (shown s.system.limits nothing_shown []).recall s.drives (faults_in s.system.store.history))) (sym ready.recall) tt;
    migrate = subst (λ (o : Option Migrating). IfSome o (MigrateKnows (shown s.system.limits nothing_shown []).migrate)) (sym ready.migrate) tt;
    lost = subst (λ (o : Option Recalling). IfSome o (λ (r : Recalling). HearsLost h s.drives s.drives [] r.machine.asked (told_next r.next))) (sym ready.recall) tt;
    stored = subst (λ (o : Option Migrating). IfSome o (λ (m : Migrating). HearsStored h s.drives m.machine.asked (told_next m.next))) (sym ready.migrate) tt;
  }

-- ---- a line more

still_some : {X Y : Type 0} (f : X → Y) (o : Option X) → is_some (option_map f o) ≡ is_some o
still_some f None = refl
still_some f (Some x) = refl

pub has_given : {D M : Type 0} (daemon : Daemon) (s : Run D M) → is_some (given_of daemon (given_now s)) ≡ runs daemon (running s)
has_given Recall s = still_some _ s.system.recall
has_given Migrate s = still_some _ s.system.migrate

module _ {D M : Type 0} (from : Run D M) where
  -- what a line leaves, said of the store as it was opened
  pub left_since : (line : Line) (r : Running) (before part : List Mark) (new : Run D M) → new.system.limits ≡ from.system.limits → new.system.store.opened ≡ from.system.store.opened → running new ≡ r
      → LeavesSettled new.system.limits (superblock_of new.system.store.opened) (first_of new) line (running new) before part → LeavesSettled from.system.limits (superblock_of from.system.store.opened) (first_of from) line r before part
  left_since line r before part new limits opened runs left =
      subst (λ (x : Running). LeavesSettled from.system.limits (superblock_of from.system.store.opened) (first_of from) line x before part) runs
      (subst (λ (s : FileStore D). LeavesSettled from.system.limits (superblock_of s) (just_opened s.meta.number s.held) line (running new) before part) opened
      (subst (λ (n : Numbers). LeavesSettled n (superblock_of new.system.store.opened) (first_of new) line (running new) before part) limits left))

  pub settles_more : (MayGoOn : List Entry → ℕ → Type 0) (lines : List Line) (line : Line) (given : Given) (deeds more : List Deed) → SettlesSince from lines (marks_of deeds) → IsLinePart is_quiet MayGoOn line given more
      → ((daemon : Daemon) → is_some (given_of daemon given) ≡ runs daemon (running_behind lines none_run))
      → LeavesSettled from.system.limits (superblock_of from.system.store.opened) (first_of from) line (running_by line (running_behind lines none_run)) (marks_of deeds) (marks_of more) → SettlesSince from (lines ++ line ∷ []) (marks_of (deeds ++ more))
  settles_more MayGoOn lines line given deeds more settles part are left =
      subst (SettlesSince from (lines ++ line ∷ [])) (sym (marks_then deeds more))
      (push_settled from.system.limits (superblock_of from.system.store.opened) (first_of from) none_run [] lines (marks_of deeds) line (marks_of more) settles (line_marks is_quiet MayGoOn given line more part)
      (line_by_behind is_quiet MayGoOn (running_behind lines none_run) given are line more part) left)
