-- What an event of a line comes to.
use Rattle.std.proofs.Common.{◌≡◌, ◌≢◌, ◌∙◌, ◌∷◌, ◌++◌, [], ℕ, List, Option, Some, None, IfSome, Result, Ok, Err, OnOk, inr, refl, sym, ap}
use Rattle.std.proofs.Common.{subst}
use Rattle.disk_model.specs.declared.device.Disk as disk
use Rattle.media_model.specs.declared.drive.Drive as drive
use Rattle.hsm_types.specs.declared.daemons.Daemon.TheVariants.{Recall}
use Rattle.hsm_types.specs.declared.dm.DmCall.TheVariants.{Respond}
use Rattle.hsm_types.specs.declared.dm.Response.TheVariants.{Continue, Abort, Media}
use Rattle.hsm_types.specs.declared.media.Fault.{Fault}
use Rattle.plain_model.specs.declared.entries.Action.{Action}
use Rattle.plain_model.specs.declared.entries.Action.TheVariants.{Issue, Resume, Dm, Commit}
use Rattle.plain_model.specs.declared.entries.Actor.{Actor}
use Rattle.plain_model.specs.declared.entries.Actor.TheVariants.{Caller, Session, Store as TheStore}
use Rattle.plain_model.specs.declared.entries.Answer.{Answer}
use Rattle.script_text.specs.Lines.{IsEvent}
use Rattle.script_text.specs.declared.lines.Line.TheVariants.{Event}
use Rattle.hsm_core.specs.Answers.{entry_of}
use Rattle.hsm_core.specs.Store.{Store}
use Rattle.marked_history.specs.Marks.{Mark, no_daemons}
use Rattle.marked_history.specs.Served.{Shown, shown, nothing_shown, NamesNoFault}
use Rattle.deeds.specs.Deeds as deeds
use Rattle.deeds.specs.Deeds.{Enters}
use Rattle.hsm_system.specs.Events.{IsDone, actor_of, action_of}
use Rattle.hsm_system.specs.Systems.{System}
use Rattle.hsm_system.specs.declared.events.Event.{Event as Made}
use Rattle.hsm_system.specs.declared.stops.Stop.{Stop}
use Rattle.hsm_replay.specs.Doing.{Does}
use Rattle.hsm_replay.specs.Faults.{fault_in, faults_in, AreTrue}
use Rattle.hsm_replay.specs.Keeping.{RecallKnows, MigrateKnows, IsMarked, Shows, GrowsBy, Ends}
use Rattle.hsm_replay.specs.Systems.{Run}
use Rattle.hsm_replay.specs.Turns.{MayResume}
use Rattle.hsm_replay.proofs.Marked.{shown_more, marked_more, no_fault_more}
use Rattle.hsm_replay.proofs.Sealing.{tallies_by_other, lost_more_if}

-- ---- entries

-- what names no fault
no_fault : (action : Action) → NamesNoFault action → fault_in action ≡ None
no_fault (Dm (Respond t (Media fault))) none = absurd none
no_fault (Dm (Respond t Continue)) none = refl
no_fault (Dm (Respond t (Abort error))) none = refl
no_fault (Dm asked) none = refl
no_fault (Issue call) none = refl
no_fault Resume none = refl
no_fault Commit none = refl

-- no line of a script names a fault
pub names_none : (actor : Actor) (action : Action) (seed : Option ℕ) → IsEvent actor action seed → NamesNoFault action
names_none (Session sid) (Dm (Respond t (Media fault))) seed is = absurd is.2.1.0
names_none (Caller caller) (Dm asked) seed is = absurd is
names_none TheStore (Dm asked) seed is = absurd is
names_none actor (Dm (Respond t Continue)) seed is = tt
names_none actor (Dm (Respond t (Abort error))) seed is = tt
names_none actor (Dm other) seed is = tt
names_none actor (Issue call) seed is = tt
names_none actor Resume seed is = tt
names_none actor Commit seed is = tt

-- so it is said of deeds
pub no_deed_names : (action : Action) → NamesNoFault action → deeds.NamesNoFault action
no_deed_names (Dm (Respond t (Media fault))) none = absurd none
no_deed_names (Dm (Respond t Continue)) none = tt
no_deed_names (Dm (Respond t (Abort error))) none = tt
no_deed_names (Dm other) none = tt
no_deed_names (Issue call) none = tt
no_deed_names Resume none = tt
no_deed_names Commit none = tt

-- what comes of it is what comes of its action
pub made_by : {D : Type 0} (g : disk.Ghosts D) (event : Made) (actor : Actor) (action : Action) → actor_of event ≡ actor → action_of event ≡ action → (result : Result (Unit {0}) Stop) (old new : System D)
    → IsDone g (actor_of event) (action_of event) result old new → IsDone g actor action result old new
made_by g event actor action who what result old new done =
    subst (λ (a : Actor). IsDone g a action result old new) who (subst (λ (x : Action). IsDone g (actor_of event) x result old new) what done)

module _ {D M : Type 0} (h : drive.Ghosts M) (old : Run D M) (store : Store D) (actor : Actor) (action : Action) (given : Answer) (none : NamesNoFault action) where
  abbrev pub after : Run D M
  after = record old { system = record old.system { store = store } }

  abbrev pub mark : Mark
  mark = no_daemons (entry_of actor action given)

  module _ (opened : List M) (marks : List Mark) (shows : Shows h opened marks old) (kept : store.history ≡ old.system.store.history ++ entry_of actor action given ∷ []) where
    same_faults : faults_in store.history ≡ faults_in old.system.store.history
    same_faults = ap faults_in kept ∙ no_fault_more old.system.store.history (entry_of actor action given) (no_fault action none)

    not_recall : mark.by ≢ Some Recall
    not_recall is = let wrong : None ≡ Some Recall = is in cc wrong

    marked : IsMarked h opened (marks ++ mark ∷ []) after
    marked = marked_more h opened marks mark old after shows.marked refl kept none (subst (λ (fs : List Fault). AreTrue h old.drives fs) (sym same_faults) shows.marked.faults) (tallies_by_other h opened old.drives old.system.limits marks shows.marked.sealed mark not_recall tt)

    pub shows_on : Shows h opened (marks ++ mark ∷ []) after
    shows_on = record {
      marked = marked;
      recall = subst (λ (fs : List Fault). IfSome old.system.recall (RecallKnows h (shown old.system.limits nothing_shown (marks ++ mark ∷ [])).recall old.drives fs)) (sym same_faults)
          (subst (λ (k : Shown). IfSome old.system.recall (RecallKnows h k.recall old.drives (faults_in old.system.store.history))) (sym (shown_more old.system.limits nothing_shown marks mark)) shows.recall);
      migrate = subst (λ (k : Shown). IfSome old.system.migrate (MigrateKnows k.migrate)) (sym (shown_more old.system.limits nothing_shown marks mark)) shows.migrate;
      lost = lost_more_if h opened old.drives marks mark old.system.recall not_recall shows.lost;
      stored = shows.stored;
    }

-- what marked histories show goes on with the entry of an event
module _ {D M : Type 0} (h : drive.Ghosts M) (old new : Run D M) (leaves : new ≡ record old { system = record old.system { store = new.system.store } }) (actor : Actor) (action : Action) (given : Answer) (none : NamesNoFault action) (kept : new.system.store.history ≡ old.system.store.history ++ entry_of actor action given ∷ []) where
  pub entered_grows : GrowsBy h (Enters (entry_of actor action given) ∷ []) old new
  entered_grows = subst (λ (s : Run D M). GrowsBy h (Enters (entry_of actor action given) ∷ []) old s) (sym leaves) (λ opened marks shows. shows_on h old new.system.store actor action given none opened marks shows kept)

  pub entered_ends : Ends h (Enters (entry_of actor action given) ∷ []) old new
  entered_ends opened marks shows = (entered_grows opened marks shows).marked

-- ---- an event that was made

module _ {D M : Type 0} (g : disk.Ghosts D) (h : drive.Ghosts M) (old new : Run D M) (actor : Actor) (action : Action) (result : Result (Unit {0}) Stop) (done : IsDone g actor action result old.system new.system) (rest : new ≡ record old { system = new.system }) where
  pub event_leaves : new ≡ record old { system = record old.system { store = new.system.store } }
  event_leaves = rest ∙ ap (λ (s : System D). record old { system = s }) done.rest

  pub event_does : (seed : Option ℕ) → Does g h (Event actor action seed) result old new
  event_does seed = (done.given, done.answer, event_leaves, done.kept)

-- a resume of that caller, where the run goes on
pub resumed_on : {D M : Type 0} (g : disk.Ghosts D) (h : drive.Ghosts M) (old new : Run D M) (caller : ℕ) (result : Result (Unit {0}) Stop) → IsDone g (Caller caller) Resume result old.system new.system → new ≡ record old { system = new.system }
    → OnOk result (MayResume caller old new)
resumed_on g h old new caller (Ok tt) done rest = inr (done.given, event_leaves g h old new (Caller caller) Resume (Ok tt) done rest, done.kept)
resumed_on g h old new caller (Err why) done rest = tt
