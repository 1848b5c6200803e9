-- What lies under the lock of a run, one event more.
use Rattle.std.proofs.Common.{◌≡◌, ◌≢◌, ◌⊎◌, ◌∙◌, ◌∷◌, ◌++◌, [], ℕ, ◌==◌, Bool, true, false, List, Option, Some, None, Result, Ok, Err, inl, inr, refl}
use Rattle.std.proofs.Common.{sym, ap, subst, append-nil}
use Rattle.std.specs.Prelude.{All, is_some, if◌then◌else◌}
use Rattle.std.specs.List.{AllByRecursion, cons_option}
use Rattle.std.proofs.lemmas.List.Elements.{All-append, All-from_recursion}
use Rattle.disk_model.specs.Moments.{Tells}
use Rattle.disk_model.specs.declared.device.Disk as disk
use Rattle.hsm_types.specs.declared.calls.Call.{Call}
use Rattle.hsm_types.specs.declared.daemons.Act.{Act}
use Rattle.hsm_types.specs.declared.daemons.Act.TheVariants as act
use Rattle.hsm_types.specs.declared.daemons.Daemon.{Daemon}
use Rattle.hsm_types.specs.declared.daemons.Heard.TheVariants as heard
use Rattle.hsm_types.specs.declared.keys.Sid.{Sid}
use Rattle.hsm_policy.specs.Settings.{Numbers}
use Rattle.plain_model.specs.Faults.{fault_of}
use Rattle.plain_model.specs.declared.entries.Action.{Action}
use Rattle.plain_model.specs.declared.entries.Action.TheVariants as action
use Rattle.plain_model.specs.declared.entries.Actor.TheVariants.{Caller, Session}
use Rattle.plain_model.specs.declared.entries.Answer.{Answer}
use Rattle.plain_model.specs.declared.entries.Answer.TheVariants as answer
use Rattle.plain_model.specs.declared.entries.Entry.{Entry}
use Rattle.file_store.specs.Stores.{Store as FileStore, superblock_of}
use Rattle.hsm_core.specs.Answers.{entry_of}
use Rattle.hsm_core.specs.Ready.{ready}
use Rattle.hsm_core.specs.Store.{Store, state_of}
use Rattle.hsm_core.specs.declared.store.Ready.TheVariants.{Idle}
use Rattle.call_lists.specs.Lines.{left_of}
use Rattle.call_lists.specs.Made.{AreMade, call_made, calls_of}
use Rattle.call_lists.specs.declared.lists.CallList.{CallList}
use Rattle.call_lists.proofs.Making.{calls_grow, none_made, none_next, still_made, next_made, next_lost}
use Rattle.deeds.specs.Deeds.{Deed, Enters, Starts, Gives, Hears, Breaks, Loses, NamesNoFault, entries_of}
use Rattle.deeds.specs.Leads.{Leads, nothing_done}
use Rattle.hsm_system.specs.Awaiting.{heard_of}
use Rattle.hsm_system.specs.Events.{IsDone}
use Rattle.hsm_system.specs.Goes.{Goes, GoesBy, HearsOf, LosesOf, situation_of}
use Rattle.hsm_system.specs.Lives.{recalls, migrates}
use Rattle.hsm_system.specs.Systems.{System}
use Rattle.hsm_system.specs.declared.awaited.Outcome.{Outcome}
use Rattle.hsm_system.specs.declared.awaited.Outcome.TheVariants as outcome
use Rattle.hsm_system.specs.declared.stops.Stop.{Stop}
use Rattle.hsm_system.specs.declared.stops.Stop.TheVariants as stop
use Rattle.hsm_system.proofs.Leading.{holds_then}
use Rattle.hsm_replay.specs.Parts.{done_by, resting}
use Rattle.hsm_threads.specs.Deeds.{IsByCaller, IsOfRun, LosesNothing, WasRun, entered}
use Rattle.hsm_threads.specs.Lots.{Lot, IsLot}
use Rattle.hsm_threads.specs.Steps.{IsStepOf, closes, lacks, stop_of}
use Rattle.hsm_threads.specs.declared.steps.Asked.{Asked}
use Rattle.hsm_threads.specs.declared.steps.Asked.TheVariants as asked
use Rattle.hsm_threads.proofs.RunDeeds.{answers_itself, event_closed, event_deeds, no_stop}
use Rattle.hsm_threads.proofs.Issuing.{idle_pending, issue_made}

-- ---- deeds of daemons enter no caller's call

-- they enter nothing, or a session's call
abbrev pub EntersNone : List Deed → Type 0
EntersNone deeds = (entries_of deeds ≡ []) ⊎ (sid : Sid) × (asked : Action) × (given : Answer) × (entries_of deeds ≡ entry_of (Session sid) asked given ∷ [])

pub record IsDaemons (deeds : List Deed) : Type 0 where
  pub of_run : All IsOfRun deeds
  pub enters : EntersNone deeds

abbrev AllDaemons : List Deed → Type 0
AllDaemons deeds = AllByRecursion IsOfRun deeds

no_deeds : IsDaemons []
no_deeds = record { of_run = All-from_recursion IsOfRun [] tt; enters = inl refl }

lost_deeds : (daemon : Daemon) → IsDaemons (Loses daemon ∷ [])
lost_deeds daemon = record { of_run = All-from_recursion IsOfRun (Loses daemon ∷ []) (tt, tt); enters = inl refl }

heard_deeds : (daemon : Daemon) (asked : Act) (o : Outcome) → IsDaemons (Hears daemon asked (heard_of o) ∷ [])
heard_deeds daemon asked o = record { of_run = All-from_recursion IsOfRun (Hears daemon asked (heard_of o) ∷ []) (tt, tt); enters = none asked o }
  where
    none : (a : Act) (o : Outcome) → EntersNone (Hears daemon a (heard_of o) ∷ [])
    none (act.Dm sid call) (outcome.Copied volume handle segment print answer) = inl refl
    none (act.Dm sid call) (outcome.Fetched entry answer) = inl refl
    none (act.Dm sid call) outcome.Rested = inl refl
    none a o = inl refl

of_daemons : (deeds : List Deed) → AllDaemons deeds → EntersNone deeds → IsDaemons deeds
of_daemons deeds are enters = record { of_run = All-from_recursion IsOfRun deeds are; enters = enters }

pub step_deeds : (daemon : Daemon) (result : Result Asked Stop) (deeds : List Deed) → IsStepOf daemon result deeds → IsDaemons deeds
step_deeds daemon (Ok asked.Nothing) deeds none = subst IsDaemons (sym none) no_deeds
step_deeds daemon (Ok asked.Called) deeds made =
    subst IsDaemons (sym made.3) (of_daemons (done_by daemon (record { asked = act.Dm made.0 made.1; told = heard.Dm made.2 })) (tt, (tt, tt)) (inr (made.0, action.Dm made.1, answer.Dm made.2, refl)))
step_deeds daemon (Ok asked.Rests) deeds is = subst IsDaemons (sym is) (of_daemons (done_by daemon resting) (tt, (tt, tt)) (inl refl))
step_deeds daemon (Ok (asked.Performs given)) deeds left = subst IsDaemons (sym left.1) (of_daemons (Gives daemon given ∷ []) (tt, tt) (inl refl))
step_deeds daemon (Err stop.Disk) deeds broke =
    subst IsDaemons (sym broke.2) (of_daemons (Gives daemon (act.Dm broke.0 broke.1) ∷ Breaks daemon broke.0 broke.1 ∷ []) (tt, (tt, tt)) (inr (broke.0, action.Dm broke.1, fault_of (action.Dm broke.1), refl)))
step_deeds daemon (Err stop.Memory) deeds (inl lacked) = subst IsDaemons (sym lacked.2) (of_daemons (Gives daemon (act.Dm lacked.0 lacked.1) ∷ Loses daemon ∷ []) (tt, (tt, tt)) (inl refl))
step_deeds daemon (Err stop.Memory) deeds (inr lost) = subst IsDaemons (sym lost) (lost_deeds daemon)

pub told_deeds : (daemon : Daemon) (o : Outcome) (deeds : List Deed) → HearsOf daemon o deeds → IsDaemons deeds
told_deeds daemon o deeds (inl none) = subst IsDaemons (sym none) no_deeds
told_deeds daemon o deeds (inr heard) = subst IsDaemons (sym heard.2) (heard_deeds daemon heard.0 o)

pub lacked_deeds : (daemon : Daemon) (deeds : List Deed) → LosesOf daemon deeds → IsDaemons deeds
lacked_deeds daemon deeds (inl none) = subst IsDaemons (sym none) no_deeds
lacked_deeds daemon deeds (inr lost) = subst IsDaemons (sym lost) (lost_deeds daemon)

pub start_deeds : (daemon : Daemon) (deeds : List Deed) → deeds ≡ Starts daemon ∷ [] → IsDaemons deeds
start_deeds daemon deeds is = subst IsDaemons (sym is) (record { of_run = All-from_recursion IsOfRun (Starts daemon ∷ []) (tt, tt); enters = inl refl })

-- ---- what daemons were to hear isn't lost

abbrev AllHeard : List Deed → Type 0
AllHeard deeds = All LosesNothing deeds

heard_all : (deeds : List Deed) → AllByRecursion LosesNothing deeds → AllHeard deeds
heard_all = All-from_recursion LosesNothing

pub step_heard : (daemon : Daemon) (result : Result Asked Stop) → stop_of result ≡ None → (deeds : List Deed) → IsStepOf daemon result deeds → AllHeard deeds
step_heard daemon (Ok asked.Nothing) on deeds none = subst AllHeard (sym none) (heard_all [] tt)
step_heard daemon (Ok asked.Called) on deeds made = subst AllHeard (sym made.3) (heard_all (done_by daemon (record { asked = act.Dm made.0 made.1; told = heard.Dm made.2 })) (tt, (tt, tt)))
step_heard daemon (Ok asked.Rests) on deeds is = subst AllHeard (sym is) (heard_all (done_by daemon resting) (tt, (tt, tt)))
step_heard daemon (Ok (asked.Performs given)) on deeds left = subst AllHeard (sym left.1) (heard_all (Gives daemon given ∷ []) (tt, tt))
step_heard daemon (Err why) on deeds is = let wrong : Some why ≡ None = on in cc wrong

pub told_heard : (daemon : Daemon) (o : Outcome) (deeds : List Deed) → HearsOf daemon o deeds → AllHeard deeds
told_heard daemon o deeds (inl none) = subst AllHeard (sym none) (heard_all [] tt)
told_heard daemon o deeds (inr heard) = subst AllHeard (sym heard.2) (heard_all (Hears daemon heard.0 (heard_of o) ∷ []) (tt, tt))

pub start_heard : (daemon : Daemon) (deeds : List Deed) → deeds ≡ Starts daemon ∷ [] → AllHeard deeds
start_heard daemon deeds is = subst AllHeard (sym is) (heard_all (Starts daemon ∷ []) (tt, tt))

-- an event of a caller
entered_heard : (stop : Option Stop) (e : Entry) → AllHeard (entered stop e)
entered_heard None e = heard_all (Enters e ∷ []) (tt, tt)
entered_heard (Some stop.Disk) e = heard_all (Enters e ∷ []) (tt, tt)
entered_heard (Some stop.Memory) e = heard_all [] tt

-- ---- the calls that callers have made

session_calls : (c : ℕ) (history : List Entry) (deeds : List Deed) → EntersNone deeds → calls_of c (history ++ entries_of deeds) ≡ calls_of c history
session_calls c history deeds (inl none) = ap (λ (es : List Entry). calls_of c (history ++ es)) none ∙ ap (calls_of c) (append-nil history)
session_calls c history deeds (inr one) = ap (λ (es : List Entry). calls_of c (history ++ es)) one.3 ∙ calls_grow c history (entry_of (Session one.0) one.1 one.2) ∙ append-nil (calls_of c history)

resume_calls : (c d : ℕ) (history : List Entry) (given : Answer) → calls_of c (history ++ entry_of (Caller d) action.Resume given ∷ []) ≡ calls_of c history
resume_calls c d history given = calls_grow c history (entry_of (Caller d) action.Resume given) ∙ none (d == c)
  where
    none : (b : Bool) → calls_of c history ++ (if b then [] else []) ≡ calls_of c history
    none true = append-nil (calls_of c history)
    none false = append-nil (calls_of c history)

issue_calls : (c d : ℕ) (history : List Entry) (call : Call) (given : Answer) → call_made (action.Issue call) given ≡ Some call → calls_of c (history ++ entry_of (Caller d) (action.Issue call) given ∷ []) ≡ calls_of c history ++ (if d == c then call ∷ [] else [])
issue_calls c d history call given is = calls_grow c history (entry_of (Caller d) (action.Issue call) given) ∙ ap (λ (o : Option Call). calls_of c history ++ (if d == c then cons_option o [] else [])) is

-- an event of a caller
entered_of_run : (stop : Option Stop) (e : Entry) → IsByCaller e.actor e.action e.answer → All IsOfRun (entered stop e)
entered_of_run None e by = All-from_recursion IsOfRun (Enters e ∷ []) (by, tt)
entered_of_run (Some stop.Disk) e by = All-from_recursion IsOfRun (Enters e ∷ []) (by, tt)
entered_of_run (Some stop.Memory) e by = All-from_recursion IsOfRun [] tt

-- ---- what lies there

module _ {D : Type 0} (opened_as : Option (FileStore D)) (limits : Numbers) (lines : ℕ → List Call) where
  abbrev Lies : Lot D → Type 0
  Lies = IsLot opened_as limits lines

  -- at first
  pub lies_first : (store : Store D) (lists : List CallList) (numbers : Numbers) (s : System D) → s ≡ record { store = store; limits = numbers; recall = None; migrate = None } → opened_as ≡ Some store.opened → numbers ≡ limits
      → ((c : ℕ) → left_of lists c ≡ lines c) → store.history ≡ [] → store.files.failed ≡ false → Lies (record { system = s; lists = lists; stop = None })
  lies_first store lists numbers s is named same each empty works = subst (λ (now : System D). Lies (record { system = now; lists = lists; stop = None })) (sym is) (record {
    opened = named;
    settings = same;
    deeds = [];
    holds = record { entries = empty; recall = refl; migrate = refl; right = All-from_recursion _ [] tt };
    of_run = All-from_recursion IsOfRun [] tt;
    heard = λ on. heard_all [] tt;
    closed = works;
    made = none_made lines lists store.history each empty;
  })

  pub was_run : (l : Lot D) → Lies l → WasRun limits l.stop l.system.store.history
  was_run l is = record { deeds = is.deeds; entries = sym is.holds.entries; served = (_, subst (λ (n : Numbers). Leads recalls (migrates n) is.deeds nothing_done (situation_of l.system)) is.settings is.holds); of_run = is.of_run; heard = is.heard }

  module _ (old : Lot D) (lies : Lies old) where
    -- The one lemma: deeds of a run that lead on, on the same store, where callers have made their calls.
    lies_more : (new : Lot D) (more : List Deed) → Goes more old.system new.system → All IsOfRun more → (new.stop ≡ None → (old.stop ≡ None) × AllHeard more) → new.system.store.opened ≡ old.system.store.opened → new.system.store.files.failed ≡ closes new.stop
        → AreMade (lacks new.stop) lines new.lists new.system.store.history → Lies new
    lies_more new more goes of_run heard same closed made = record {
      opened = lies.opened ∙ ap Some (sym same);
      settings = goes.limits ∙ lies.settings;
      deeds = lies.deeds ++ more;
      holds = holds_then lies.deeds more old.system new.system lies.holds goes;
      of_run = All-append IsOfRun lies.deeds more lies.of_run of_run;
      heard = λ on. All-append LosesNothing lies.deeds more (lies.heard (heard on).0) (heard on).1;
      closed = closed;
      made = made;
    }

    -- what a daemon does leaves the callers' calls
    pub lies_by : (IsPart : List Deed → Type 0) → ((deeds : List Deed) → IsPart deeds → IsDaemons deeds) → (system : System D) (now : Option Stop) → GoesBy IsPart old.system system → system.store.opened ≡ old.system.store.opened
        → system.store.files.failed ≡ closes now → (lacks now ≡ false → lacks old.stop ≡ false) → (now ≡ None → (old.stop ≡ None) × ((deeds : List Deed) → IsPart deeds → AllHeard deeds))
        → Lies (record { system = system; lists = old.lists; stop = now })
    lies_by IsPart are system now goes same closed made heard =
        let is = are goes.0 goes.1 in
        lies_more (record { system = system; lists = old.lists; stop = now }) goes.0 goes.2 is.of_run (λ on. ((heard on).0, (heard on).1 goes.0 goes.1)) same closed
        (still_made lines old.lists old.system.store.history system.store.history (lacks old.stop) (lacks now) lies.made (λ c. ap (calls_of c) goes.2.leads.entries ∙ session_calls c old.system.store.history goes.0 is.enters) made)

    -- nor does it touch the store, where it makes no call
    pub lies_beside : (IsPart : List Deed → Type 0) → ((deeds : List Deed) → IsPart deeds → IsDaemons deeds) → (system : System D) (now : Option Stop) → GoesBy IsPart old.system system → system.store ≡ old.system.store → closes now ≡ closes old.stop
        → (lacks now ≡ false → lacks old.stop ≡ false) → (now ≡ None → (old.stop ≡ None) × ((deeds : List Deed) → IsPart deeds → AllHeard deeds)) → Lies (record { system = system; lists = old.lists; stop = now })
    lies_beside IsPart are system now goes same alike made heard =
        lies_by IsPart are system now goes (ap (λ (s : Store D). s.opened) same) (ap (λ (s : Store D). s.files.failed) same ∙ lies.closed ∙ sym alike) made heard

    -- the run hadn't stopped, so its store works
    module _ (on : is_some old.stop ≡ false) where
      pub works_still : old.system.store.files.failed ≡ false
      works_still = lies.closed ∙ ap closes (no_stop old.stop on)

      made_now : AreMade false lines old.lists old.system.store.history
      made_now = subst (λ (stop : Option Stop). AreMade (lacks stop) lines old.lists old.system.store.history) (no_stop old.stop on) lies.made

      -- a step of a daemon
      pub lies_stepped : (daemon : Daemon) (result : Result Asked Stop) (stop : Option Stop) (system : System D) → stop ≡ stop_of result → GoesBy (IsStepOf daemon result) old.system system
          → system.store.opened ≡ old.system.store.opened → system.store.files.failed ≡ closes (stop_of result) → Lies (record { system = system; lists = old.lists; stop = stop })
      lies_stepped daemon result stop system is goes same closed =
          lies_by (IsStepOf daemon result) (step_deeds daemon result) system stop goes same (closed ∙ ap closes (sym is)) (λ none. ap lacks (no_stop old.stop on)) (λ none. (no_stop old.stop on, step_heard daemon result (sym is ∙ none)))

    -- a caller's list had ended
    pub lies_ended : (d : ℕ) (left : List CallList) → left_of old.lists d ≡ [] → left_of left d ≡ [] → ((c : ℕ) → c ≢ d → left_of left c ≡ left_of old.lists c) → Lies (record old { lists = left })
    lies_ended d left before behind others = record {
      opened = lies.opened;
      settings = lies.settings;
      deeds = lies.deeds;
      holds = lies.holds;
      of_run = lies.of_run;
      heard = lies.heard;
      closed = lies.closed;
      made = none_next lines old.lists old.system.store.history d (lacks old.stop) left lies.made before behind others;
    }

    module _ (g : disk.Ghosts D) (d : ℕ) (on : is_some old.stop ≡ false) (new : System D) where
      event_lies : (asked : Action) → NamesNoFault asked → (result : Result (Unit {0}) Stop) (left : List CallList) (stop : Option Stop) (done : IsDone g (Caller d) asked result old.system new) → IsByCaller (Caller d) asked done.given
          → stop ≡ stop_of result → AreMade (lacks stop) lines left new.store.history → Lies (record { system = new; lists = left; stop = stop })
      event_lies asked may result left stop done by is made =
          lies_more (record { system = new; lists = left; stop = stop }) (entered (stop_of result) (entry_of (Caller d) asked done.given)) (event_deeds g (Caller d) asked may old.system new (works_still on) result done)
          (entered_of_run (stop_of result) (entry_of (Caller d) asked done.given) by) (λ none. (no_stop old.stop on, entered_heard (stop_of result) (entry_of (Caller d) asked done.given))) done.runs.goes_on.opened (event_closed g (Caller d) asked may old.system new (works_still on) result done ∙ ap closes (sym is)) made

      -- ---- a caller's call

      -- it isn't refused since another access of the caller waits
      is_made : (call : Call) (result : Result (Unit {0}) Stop) → ready old.system.store d ≡ Idle → (done : IsDone g (Caller d) (action.Issue call) result old.system new) → call_made (action.Issue call) done.given ≡ Some call
      is_made call (Ok x) idle done =
          issue_made (Tells g new.store.files.disk) (superblock_of old.system.store.opened) (state_of old.system.store) d call done.given
          (answers_itself g old.system.store (Caller d) (action.Issue call) done.given new.store done.answer done.goes) (idle_pending old.system.store d idle)
      is_made call (Err stop.Disk) idle done = ap (call_made (action.Issue call)) done.stops
      is_made call (Err stop.Memory) idle done = ap (call_made (action.Issue call)) done.stops

      module _ (call : Call) (left : List CallList) (taken : left_of old.lists d ≡ call ∷ left_of left d) (others : (c : ℕ) → c ≢ d → left_of left c ≡ left_of old.lists c) where
        made_next : (stopped : Bool) (given : Answer) → call_made (action.Issue call) given ≡ Some call → new.store.history ≡ old.system.store.history ++ entry_of (Caller d) (action.Issue call) given ∷ [] → AreMade stopped lines left new.store.history
        made_next stopped given is more = next_made lines old.lists old.system.store.history new.store.history d call left (made_now on) taken others stopped (λ c. ap (calls_of c) more ∙ issue_calls c d old.system.store.history call given is)

        made_lost : new.store.history ≡ old.system.store.history → AreMade true lines left new.store.history
        made_lost same = next_lost lines old.lists old.system.store.history new.store.history d call left (made_now on) taken others (λ c. ap (calls_of c) same)

        made_by : (stop : Option Stop) (given : Answer) → call_made (action.Issue call) given ≡ Some call → Goes (entered stop (entry_of (Caller d) (action.Issue call) given)) old.system new → AreMade (lacks stop) lines left new.store.history
        made_by None given is goes = made_next false given is goes.leads.entries
        made_by (Some stop.Disk) given is goes = made_next false given is goes.leads.entries
        made_by (Some stop.Memory) given is goes = made_lost (goes.leads.entries ∙ append-nil old.system.store.history)

        pub lies_issued : (result : Result (Unit {0}) Stop) (stop : Option Stop) → ready old.system.store d ≡ Idle → IsDone g (Caller d) (action.Issue call) result old.system new → stop ≡ stop_of result → Lies (record { system = new; lists = left; stop = stop })
        lies_issued result stop idle done is =
            let made = is_made call result idle done in
            event_lies (action.Issue call) tt result left stop done made is
            (subst (λ (o : Option Stop). AreMade (lacks o) lines left new.store.history) (sym is) (made_by (stop_of result) done.given made (event_deeds g (Caller d) (action.Issue call) tt old.system new (works_still on) result done)))

      -- ---- a caller's access that goes on

      resumed_calls : (c : ℕ) (stop : Option Stop) (given : Answer) → Goes (entered stop (entry_of (Caller d) action.Resume given)) old.system new → calls_of c new.store.history ≡ calls_of c old.system.store.history
      resumed_calls c None given goes = ap (calls_of c) goes.leads.entries ∙ resume_calls c d old.system.store.history given
      resumed_calls c (Some stop.Disk) given goes = ap (calls_of c) goes.leads.entries ∙ resume_calls c d old.system.store.history given
      resumed_calls c (Some stop.Memory) given goes = ap (calls_of c) (goes.leads.entries ∙ append-nil old.system.store.history)

      pub lies_resumed : (result : Result (Unit {0}) Stop) (stop : Option Stop) → IsDone g (Caller d) action.Resume result old.system new → stop ≡ stop_of result → Lies (record { system = new; lists = old.lists; stop = stop })
      lies_resumed result stop done is =
          let goes = event_deeds g (Caller d) action.Resume tt old.system new (works_still on) result done in
          event_lies action.Resume tt result old.lists stop done tt is
          (still_made lines old.lists old.system.store.history new.store.history false (lacks stop) (made_now on) (λ c. resumed_calls c (stop_of result) done.given goes) (λ goes_on. refl))
