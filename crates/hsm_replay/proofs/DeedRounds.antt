-- The deeds of events, turns, resumes and rounds.
use Rattle.std.proofs.Common.{◌≡◌, ◌∙◌, ◌+◌, ◌∷◌, ◌++◌, [], ℕ, Bool, true, false, List, length}
use Rattle.std.proofs.Common.{drop, Option, Some, None, option_map, Result, Ok, Err, inl, inr}
use Rattle.std.proofs.Common.{refl, sym, ap, subst, append-nil, append_assoc}
use Rattle.std.specs.List.{list_all}
use Rattle.std.specs.Prelude.{IfSome}
use Rattle.std.proofs.lemmas.List.Elements.{All-from_recursion}
use Rattle.media_model.specs.declared.drive.Drive as drive
use Rattle.hsm_types.specs.Callers.{IsCallerNumber}
use Rattle.hsm_types.specs.Limits.{callers}
use Rattle.hsm_types.specs.declared.daemons.Act.{Act}
use Rattle.hsm_types.specs.declared.daemons.Act.TheVariants.{Dm, Copy, Fetch, Idle}
use Rattle.hsm_types.specs.declared.daemons.Daemon.{Daemon}
use Rattle.hsm_types.specs.declared.daemons.Daemon.TheVariants.{Recall, Migrate}
use Rattle.plain_model.specs.Faults.{fault_of}
use Rattle.plain_model.specs.declared.entries.Action.{Action}
use Rattle.plain_model.specs.declared.entries.Action.TheVariants.{Resume}
use Rattle.plain_model.specs.declared.entries.Actor.{Actor}
use Rattle.plain_model.specs.declared.entries.Actor.TheVariants.{Caller}
use Rattle.plain_model.specs.declared.entries.Answer.{Answer}
use Rattle.plain_model.specs.declared.entries.Entry.{Entry}
use Rattle.deeds.specs.Deeds.{entry_of, Deed, Enters, Starts, Kills, Refreshes, StopsNothing, entries_of}
use Rattle.deeds.specs.Given.{Given, given_of, asked_behind, given_behind}
use Rattle.deeds.specs.Lives.{life}
use Rattle.deeds.proofs.Giving.{given_then}
use Rattle.hsm_system.specs.Events.{actor_of, action_of}
use Rattle.hsm_system.specs.Goes.{Goes, EntersBy, EndsBy}
use Rattle.hsm_system.specs.Systems.{System, Rests}
use Rattle.hsm_system.specs.declared.events.Event.{Event}
use Rattle.hsm_system.specs.Running.{Migrating, Recalling}
use Rattle.hsm_system.specs.declared.stops.Stop.{Stop}
use Rattle.hsm_system.specs.declared.stops.Stop.TheVariants as stop
use Rattle.marked_history.specs.Marks.{Mark}
use Rattle.marked_history.specs.Quiet.{is_quiet}
use Rattle.marked_history.specs.Served.{NamesNoFault}
use Rattle.hsm_replay.specs.Deeds.{given_now, IsSo, RunsBy, IsDoneBy, IsStoppedBy, IsStopOf, ByDeeds}
use Rattle.hsm_replay.specs.Deeds.{MayResumeBy, IsResumeCut, IsRoundOf}
use Rattle.hsm_replay.specs.ReadyCallers.{MayGoOn}
use Rattle.hsm_replay.specs.Parts.{IsStep, IsLeft, IsLeftFrom, IsTurn, IsTurnFrom, IsTurnIf, AreResumes, are_quiet, IsRound, IsSettle}
use Rattle.hsm_replay.specs.Stopped.{Ending, Broken, Unmade, AreResumesCut, IsEventCut, IsStepCut, IsLeftCut}
use Rattle.hsm_replay.specs.Stopped.{IsLeftCutFrom, IsTurnCut, IsTurnCutFrom, IsRoundCut, IsSettleCut}
use Rattle.hsm_replay.specs.Keeping.{GrowsBy}
use Rattle.hsm_replay.specs.Marking.{marks_of}
use Rattle.hsm_replay.specs.Resting.{EndsInTurns, EndsMarked}
use Rattle.hsm_replay.specs.Systems.{Run, started, killed, refreshed}
use Rattle.hsm_replay.specs.Turns.{HasTurned, HaveResumed}
use Rattle.hsm_replay.proofs.Beginning.{starts_grow, kills_grow, refresh_grows}
use Rattle.hsm_replay.proofs.Deeds.{runs_still, ends_still, done_none, done_then, stopped_then, done_so, done_as, stopped_as, done_to}
use Rattle.hsm_replay.proofs.Events.{entered_grows, entered_ends}
use Rattle.hsm_replay.proofs.Marking.{marks_then}
use Rattle.hsm_replay.proofs.PartsOn.{IsAtRest, IsSoFar, so_far_none, so_far_on, so_far_over, so_far_cut}
use Rattle.hsm_replay.proofs.PartsOn.{step_turns, step_turns_cut, step_cut, left_turns, left_cut, left_turns_cut}
use Rattle.hsm_replay.proofs.ReadyCallers.{goes_as}
use Rattle.hsm_replay.proofs.Resuming.{ResumesTo, resumes_none, resumes_all, resume_next, resume_cut}
use Rattle.hsm_replay.proofs.PartsOn.{RoundsTo, rounds_none, rounds_on, rounds_settle, rounds_cut}
use Rattle.hsm_replay.proofs.PartsRun.{given_so}
use Rattle.hsm_replay.proofs.Rounds.{drop_first, behind_same, ends_later, turns_end, round_ends}

-- ---- events

abbrev pub IsEntryOf : Actor → Action → Given → List Deed → Type 0
IsEntryOf actor asked given deeds = (told : Answer) × StopsNothing told × (deeds ≡ Enters (entry_of actor asked told) ∷ [])

abbrev pub IsCutOf : Actor → Action → Given → Ending → List Deed → Type 0
IsCutOf actor asked given ending deeds = IsEventCut actor asked ending deeds

module _ {D M : Type 0} (h : drive.Ghosts M) (old new : Run D M) (leaves : new ≡ record old { system = record old.system { store = new.system.store } }) where
  same_drives : new.drives ≡ old.drives
  same_drives = ap (λ (s : Run D M). s.drives) leaves

  none_entered : Goes [] old.system new.system → RunsBy h [] old new
  none_entered goes = runs_still h [] old new goes same_drives (λ ds. (All-from_recursion (IsSo h ds) [] tt, refl)) refl

  one_entered : (e : Entry) → Goes (Enters e ∷ []) old.system new.system → RunsBy h (Enters e ∷ []) old new
  one_entered e goes = runs_still h (Enters e ∷ []) old new goes same_drives (λ ds. (All-from_recursion (IsSo h ds) (Enters e ∷ []) (tt, tt), (ds, refl, refl))) refl

  module _ (actor : Actor) (asked : Action) (none : NamesNoFault asked) where
    untold : (why : Stop) → Goes [] old.system new.system → IsStopOf h why Unmade old.system.store new.system.store → IsStoppedBy h (IsCutOf actor asked) why old new
    untold why goes stops = record { ending = Unmade; deeds = []; cut = refl; runs = none_entered goes; ends = ends_still h [] old new refl refl (none_entered goes); stops = stops }

    event_stopped : (why : Stop) → EndsBy why (Enters (entry_of actor asked (fault_of asked)) ∷ []) [] old.system new.system → IsStoppedBy h (IsCutOf actor asked) why old new
    event_stopped stop.Disk (inl broke) = record {
      ending = Broken;
      deeds = Enters (entry_of actor asked (fault_of asked)) ∷ [];
      cut = refl;
      runs = one_entered (entry_of actor asked (fault_of asked)) broke.0;
      ends = entered_ends h old new leaves actor asked (fault_of asked) none broke.0.leads.entries;
      stops = broke.1;
    }
    event_stopped stop.Disk (inr closed) = untold stop.Disk closed.0 closed.1
    event_stopped stop.Memory lacks = untold stop.Memory lacks.0 lacks.1

    pub event_by_deeds : {T : Type 0} (result : Result T Stop) → EntersBy actor asked result old.system new.system → ByDeeds h (λ (done : T). IsEntryOf actor asked) (IsCutOf actor asked) result old new
    event_by_deeds (Ok x) enters =
        let by = enters.done in
        let e : Entry = entry_of actor asked by.1.0 in
        let goes : Goes (Enters e ∷ []) old.system new.system = subst (λ (ds : List Deed). Goes ds old.system new.system) by.1.2 by.2 in
        record {
          deeds = Enters e ∷ [];
          part = (by.1.0, by.1.1, refl);
          runs = one_entered e goes;
          grows = entered_grows h old new leaves actor asked by.1.0 none goes.leads.entries;
          works = inr enters.works;
        }
    event_by_deeds (Err why) enters = event_stopped why enters.stopped

module _ {D M : Type 0} (h : drive.Ghosts M) (May : List Entry → ℕ → Type 0) (caller : ℕ) (number : IsCallerNumber caller) (old new : Run D M) (may : May old.system.store.history caller) where
  -- a resume
  pub resume_by_deeds : (result : Result (Unit {0}) Stop) → ByDeeds h (λ (done : Unit {0}). IsEntryOf (Caller caller) Resume) (IsCutOf (Caller caller) Resume) result old new → ByDeeds h (λ (done : Unit {0}). MayResumeBy May caller) (IsResumeCut May caller) result old new
  resume_by_deeds (Ok tt) done = done_as h (IsEntryOf (Caller caller) Resume) (MayResumeBy May caller) old new (λ deeds is. inr (may, (is.0, number, is.1, is.2))) done
  resume_by_deeds (Err why) stopped = stopped_as h (IsCutOf (Caller caller) Resume) (IsResumeCut May caller) why old new (λ ending deeds cut. (number, may, cut)) stopped

-- the event of a line
pub entered_by : {D T : Type 0} (event : Event) (actor : Actor) (asked : Action) → actor_of event ≡ actor → action_of event ≡ asked → (result : Result T Stop) (old new : System D) → EntersBy (actor_of event) (action_of event) result old new → EntersBy actor asked result old new
entered_by event actor asked who what result old new enters = subst (λ (a : Actor). EntersBy a asked result old new) who (subst (λ (x : Action). EntersBy (actor_of event) x result old new) what enters)

-- ---- starts and kills

module _ {D M : Type 0} (h : drive.Ghosts M) (daemon : Daemon) (old new : Run D M) where
  started_store : started daemon old ≡ new → old.system.store ≡ new.system.store
  started_store is = by daemon is
    where
      by : (daemon : Daemon) → started daemon old ≡ new → old.system.store ≡ new.system.store
      by Recall same = ap (λ (s : Run D M). s.system.store) same
      by Migrate same = ap (λ (s : Run D M). s.system.store) same

  killed_store : killed daemon old ≡ new → old.system.store ≡ new.system.store
  killed_store is = by daemon is
    where
      by : (daemon : Daemon) → killed daemon old ≡ new → old.system.store ≡ new.system.store
      by Recall same = ap (λ (s : Run D M). s.system.store) same
      by Migrate same = ap (λ (s : Run D M). s.system.store) same

  pub started_done : new ≡ started daemon old → RunsBy h (Starts daemon ∷ []) old new → IsDoneBy h (λ given deeds. deeds ≡ Starts daemon ∷ []) old new
  started_done is runs = record { deeds = Starts daemon ∷ []; part = refl; runs = runs; grows = subst (λ (s : Run D M). GrowsBy h (Starts daemon ∷ []) old s) (sym is) (starts_grow h daemon old); works = inl (sym (started_store (sym is))) }

  pub killed_done : new ≡ killed daemon old → RunsBy h (Kills daemon ∷ []) old new → IsDoneBy h (λ given deeds. deeds ≡ Kills daemon ∷ []) old new
  killed_done is runs = record { deeds = Kills daemon ∷ []; part = refl; runs = runs; grows = subst (λ (s : Run D M). GrowsBy h (Kills daemon ∷ []) old s) (sym is) (kills_grow h daemon old); works = inl (sym (killed_store (sym is))) }

-- ---- turns

rests_of : {R : Type 0} (asked : R → Act) (o : Option R) → IfSome o (λ (r : R). asked r ≡ Idle) → IsAtRest (option_map asked o)
rests_of asked None rests = tt
rests_of asked (Some r) rests = subst (λ (a : Act). IsAtRest (Some a)) (sym rests) tt

idle_of : (asked : Act) → IsAtRest (Some asked) → asked ≡ Idle
idle_of Idle rests = refl
idle_of (Dm sid call) rests = absurd rests
idle_of (Copy volume handle segment bytes) rests = absurd rests
idle_of (Fetch entry) rests = absurd rests

of_rests : {R : Type 0} (asked : R → Act) (o : Option R) → IsAtRest (option_map asked o) → IfSome o (λ (r : R). asked r ≡ Idle)
of_rests asked None rests = tt
of_rests asked (Some r) rests = idle_of (asked r) rests

module _ {D M : Type 0} where
  pub at_rest : (daemon : Daemon) (s : Run D M) → Rests daemon s.system → IsAtRest (given_of daemon (given_now s))
  at_rest Recall s rests = rests_of (λ (r : Recalling). r.machine.asked) s.system.recall rests
  at_rest Migrate s rests = rests_of (λ (m : Migrating). m.machine.asked) s.system.migrate rests

  pub rests_at : (daemon : Daemon) (s : Run D M) → IsAtRest (given_of daemon (given_now s)) → Rests daemon s.system
  rests_at Recall s rests = of_rests (λ (r : Recalling). r.machine.asked) s.system.recall rests
  rests_at Migrate s rests = of_rests (λ (m : Migrating). m.machine.asked) s.system.migrate rests

-- what is left of a turn, so far
abbrev pub IsLeftSoFar : Daemon → Given → List Deed → Type 0
IsLeftSoFar daemon given deeds = IsSoFar daemon (given_of daemon given) deeds (given_of daemon (given_behind deeds given))

-- it doesn't rest
abbrev Works : Daemon → Given → Type 0
Works daemon given = IsAtRest (given_of daemon given) → ⊥

left_nothing : (daemon : Daemon) (given : Given) → IsLeftSoFar daemon given []
left_nothing Recall given = so_far_none Recall given.recall
left_nothing Migrate given = so_far_none Migrate given.migrate

given_next : (daemon : Daemon) (deeds more : List Deed) (given : Given) → given_of daemon (given_behind (deeds ++ more) given) ≡ asked_behind (life daemon more) (given_of daemon (given_behind deeds given))
given_next daemon deeds more given = ap (λ (g : Given). given_of daemon g) (given_then deeds more given) ∙ given_so daemon more (given_behind deeds given)

module _ {D M : Type 0} (h : drive.Ghosts M) (daemon : Daemon) where
  pub left_none : (s : Run D M) → IsDoneBy h (IsLeftSoFar daemon) s s
  left_none s = done_none h (IsLeftSoFar daemon) s (left_nothing daemon (given_now s))

  pub left_on : (a b c : Run D M) → (Rests daemon b.system → ⊥) → IsDoneBy h (IsLeftSoFar daemon) a b → IsDoneBy h (IsStep daemon) b c → IsDoneBy h (IsLeftSoFar daemon) a c
  left_on a b c works first then = done_then h (λ given deeds. IsLeftSoFar daemon given deeds × Works daemon (given_behind deeds given)) (IsStep daemon) (IsLeftSoFar daemon) a b c
      (λ deeds step so is. subst (λ (o : Option Act). IsSoFar daemon (given_of daemon (given_now a)) (deeds ++ step) o) (sym (given_next daemon deeds step (given_now a)))
      (so_far_on daemon (given_of daemon (given_now a)) (given_of daemon (given_behind deeds (given_now a))) deeds step so.0 so.1 is))
      (done_to h (IsLeftSoFar daemon) (Works daemon) a b (λ rests. works (rests_at daemon b rests)) first) then

  pub left_over : (a b : Run D M) → Rests daemon b.system → IsDoneBy h (IsLeftSoFar daemon) a b → IsDoneBy h (IsLeft daemon) a b
  left_over a b rests done = done_as h (λ given deeds. IsLeftSoFar daemon given deeds × IsAtRest (given_of daemon (given_behind deeds given))) (IsLeft daemon) a b
      (λ deeds is. so_far_over daemon (given_of daemon (given_now a)) (given_of daemon (given_behind deeds (given_now a))) deeds is.0 is.1)
      (done_to h (IsLeftSoFar daemon) (λ given. IsAtRest (given_of daemon given)) a b (at_rest daemon b rests) done)

  pub left_stopped : (why : Stop) (a b c : Run D M) → (Rests daemon b.system → ⊥) → IsDoneBy h (IsLeftSoFar daemon) a b → IsStoppedBy h (IsStepCut daemon) why b c → IsStoppedBy h (IsLeftCut daemon) why a c
  left_stopped why a b c works first then = stopped_then h (λ given deeds. IsLeftSoFar daemon given deeds × Works daemon (given_behind deeds given)) (IsStepCut daemon) (IsLeftCut daemon) why a b c
      (λ ending deeds last so cut. so_far_cut daemon (given_of daemon (given_now a)) (given_of daemon (given_behind deeds (given_now a))) ending deeds last so.0 so.1 cut)
      (done_to h (IsLeftSoFar daemon) (Works daemon) a b (λ rests. works (rests_at daemon b rests)) first) then

  -- ---- a step of one that rests, and what is left behind it

  module _ (a b : Run D M) (rests : Rests daemon a.system) where
    pub whole_stopped : (why : Stop) → IsStoppedBy h (IsStepCut daemon) why a b → IsStoppedBy h (IsTurnCut daemon) why a b
    whole_stopped why stopped = stopped_as h (IsStepCut daemon) (IsTurnCut daemon) why a b (λ ending deeds cut. step_cut daemon (given_of daemon (given_now a)) ending deeds (at_rest daemon a rests) cut) stopped

    pub whole_done : (c : Run D M) (result : Result (Unit {0}) Stop) → IsDoneBy h (IsStep daemon) a b → ByDeeds h (λ (done : Unit {0}). IsLeft daemon) (IsLeftCut daemon) result b c → ByDeeds h (λ (done : Unit {0}). IsTurn daemon) (IsTurnCut daemon) result a c
    whole_done c (Ok tt) step left = done_then h (IsStep daemon) (IsLeft daemon) (IsTurn daemon) a b c
        (λ deeds more is then. step_turns daemon (given_of daemon (given_now a)) deeds more (at_rest daemon a rests) is (subst (λ (o : Option Act). IsLeftFrom daemon o more) (given_so daemon deeds (given_now a)) then)) step left
    whole_done c (Err why) step left = stopped_then h (IsStep daemon) (IsLeftCut daemon) (IsTurnCut daemon) why a b c
        (λ ending deeds more is cut. step_turns_cut daemon (given_of daemon (given_now a)) ending deeds more (at_rest daemon a rests) is (subst (λ (o : Option Act). IsLeftCutFrom daemon o ending more) (given_so daemon deeds (given_now a)) cut)) step left

  -- ---- a turn

  pub turn_stopped : (why : Stop) (a b : Run D M) → IsStoppedBy h (IsLeftCut daemon) why a b → IsStoppedBy h (IsTurnCut daemon) why a b
  turn_stopped why a b stopped = stopped_as h (IsLeftCut daemon) (IsTurnCut daemon) why a b (λ ending deeds cut. left_cut daemon (given_of daemon (given_now a)) ending deeds cut) stopped

  pub turn_done : (a b c : Run D M) (result : Result (Unit {0}) Stop) → IsDoneBy h (IsLeft daemon) a b → ByDeeds h (λ (done : Unit {0}). IsTurn daemon) (IsTurnCut daemon) result b c → ByDeeds h (λ (done : Unit {0}). IsTurn daemon) (IsTurnCut daemon) result a c
  turn_done a b c (Ok tt) left turn = done_then h (IsLeft daemon) (IsTurn daemon) (IsTurn daemon) a b c
      (λ deeds more is then. left_turns daemon (given_of daemon (given_now a)) deeds more is (subst (λ (o : Option Act). IsTurnFrom daemon o more) (given_so daemon deeds (given_now a)) then)) left turn
  turn_done a b c (Err why) left turn = stopped_then h (IsLeft daemon) (IsTurnCut daemon) (IsTurnCut daemon) why a b c
      (λ ending deeds more is cut. left_turns_cut daemon (given_of daemon (given_now a)) ending deeds more is (subst (λ (o : Option Act). IsTurnCutFrom daemon o ending more) (given_so daemon deeds (given_now a)) cut)) left turn

-- ---- resumes

abbrev pub HaveResumedTo : (List Entry → ℕ → Type 0) → ℕ → Given → List Deed → Type 0
HaveResumedTo May number given deeds = ResumesTo May given number deeds

module _ {D M : Type 0} (h : drive.Ghosts M) where
  pub resumed_none_by : (May : List Entry → ℕ → Type 0) (s : Run D M) → IsDoneBy h (HaveResumedTo May 1) s s
  resumed_none_by May s = done_none h (HaveResumedTo May 1) s (resumes_none May (given_now s))

  pub resumed_all_by : (May : List Entry → ℕ → Type 0) (a b : Run D M) → IsDoneBy h (HaveResumedTo May (callers + 1)) a b → IsDoneBy h (AreResumes May) a b
  resumed_all_by May a b done = done_as h (HaveResumedTo May (callers + 1)) (AreResumes May) a b (λ deeds so. resumes_all May (given_now a) deeds so) done

  -- whose access may go on is so behind what was done as before it
  module _ (IsFirst : Given → List Deed → Type 0) (a b : Run D M) (first : IsDoneBy h IsFirst a b) (opened : b.system.store.opened ≡ a.system.store.opened) where
    abbrev may_before : List Entry → ℕ → Type 0
    may_before = MayGoOn a.system.store

    pub done_since : (IsPart : (List Entry → ℕ → Type 0) → Given → List Deed → Type 0) (c : Run D M) → IsDoneBy h (IsPart (MayGoOn b.system.store)) b c → IsDoneBy h (IsPart may_before) b c
    done_since IsPart c then = goes_as {D = D} {M = M} h a.system.store b.system.store opened first.works (λ may. IsDoneBy h (IsPart may) b c) then

    pub stopped_since : (IsCut : (List Entry → ℕ → Type 0) → Given → Ending → List Deed → Type 0) (why : Stop) (c : Run D M) → IsStoppedBy h (IsCut (MayGoOn b.system.store)) why b c → IsStoppedBy h (IsCut may_before) why b c
    stopped_since IsCut why c then = goes_as {D = D} {M = M} h a.system.store b.system.store opened first.works (λ may. IsStoppedBy h (IsCut may) why b c) then

  module _ (number : ℕ) (a b c : Run D M) (opened : b.system.store.opened ≡ a.system.store.opened) (first : IsDoneBy h (HaveResumedTo (MayGoOn a.system.store) number) a b) where
    abbrev may_first : List Entry → ℕ → Type 0
    may_first = MayGoOn a.system.store

    pub resumed_on_by : IsDoneBy h (MayResumeBy (MayGoOn b.system.store) number) b c → IsDoneBy h (HaveResumedTo may_first (number + 1)) a c
    resumed_on_by then = done_then h (HaveResumedTo may_first number) (MayResumeBy may_first number) (HaveResumedTo may_first (number + 1)) a b c
        (λ deeds more so is. resume_next may_first (given_now a) number deeds more so is)
        first (done_since (HaveResumedTo may_first number) a b first opened (λ may. MayResumeBy may number) c then)

    pub resumed_stopped : (why : Stop) → IsStoppedBy h (IsResumeCut (MayGoOn b.system.store) number) why b c → IsStoppedBy h (AreResumesCut may_first) why a c
    resumed_stopped why then = stopped_then h (HaveResumedTo may_first number) (IsResumeCut may_first number) (AreResumesCut may_first) why a b c
        (λ ending deeds last so cut. resume_cut may_first (given_now a) number ending deeds last so cut)
        first (stopped_since (HaveResumedTo may_first number) a b first opened (λ may. IsResumeCut may number) why c then)

-- ---- rounds

-- a turn of the daemon, with these entries
abbrev pub IsTurnWith : Daemon → List Entry → Given → List Deed → Type 0
IsTurnWith daemon entries given deeds = IsTurn daemon given deeds × (entries_of deeds ≡ entries)

-- recall's turn, and the resumes behind it
abbrev pub HasBegun : (List Entry → ℕ → Type 0) → List Entry → Given → List Deed → Type 0
HasBegun May entries given deeds = (recalls : List Deed) × (resumes : List Deed) × (deeds ≡ recalls ++ resumes) × IsTurnWith Recall entries given recalls × AreResumes May (given_behind recalls given) resumes

-- a round, of which the marks tell how the store came to rest
abbrev pub IsRoundTo : {D M : Type 0} → (List Entry → ℕ → Type 0) → Run D M → Run D M → Bool → Given → List Deed → Type 0
IsRoundTo May old new quiet given deeds = IsRoundOf May quiet given deeds × (quiet ≡ true → EndsMarked old new deeds)

-- the last of more deeds are those of the same turns
ends_behind : {D M : Type 0} (old new : Run D M) (deeds more : List Deed) → EndsMarked old new more → EndsMarked old new (deeds ++ more)
ends_behind old new deeds more ends =
    (ends.0, subst (λ (ms : List Mark). EndsInTurns ms ends.0.recall_turn ends.0.migrate_turn) (sym (marks_then deeds more)) (ends_later (marks_of deeds) (marks_of more) ends.0.recall_turn ends.0.migrate_turn ends.1))

module _ {D M : Type 0} (h : drive.Ghosts M) where
  turn_with : (daemon : Daemon) (a b : Run D M) (turned : HasTurned daemon a b) → IsDoneBy h (IsTurn daemon) a b → IsDoneBy h (IsTurnWith daemon turned.entries) a b
  turn_with daemon a b turned turn =
      let same : entries_of turn.deeds ≡ turned.entries = behind_same a.system.store.history (entries_of turn.deeds) turned.entries (sym turn.runs.goes.leads.entries ∙ turned.history) in
      done_so h (IsTurn daemon) (IsTurnWith daemon turned.entries) a b turn (turn.part, same)

  pub round_begun_by : (a b c : Run D M) (turned : HasTurned Recall a b) → b.system.store.opened ≡ a.system.store.opened → IsDoneBy h (IsTurn Recall) a b → IsDoneBy h (AreResumes (MayGoOn b.system.store)) b c → IsDoneBy h (HasBegun (MayGoOn a.system.store) turned.entries) a c
  round_begun_by a b c turned opened turn resumes =
      done_then h (IsTurnWith Recall turned.entries) (AreResumes (MayGoOn a.system.store)) (HasBegun (MayGoOn a.system.store) turned.entries) a b c (λ deeds more is then. (deeds, more, refl, is, then))
      (turn_with Recall a b turned turn) (done_since h (IsTurn Recall) a b turn opened AreResumes c resumes)

  -- whether the entries of what was done are quiet
  pub quiet_by : (IsPart : Given → List Deed → Type 0) (a b : Run D M) (quiet : Bool) → quiet ≡ list_all is_quiet (drop (length a.system.store.history) b.system.store.history) → IsDoneBy h IsPart a b → IsDoneBy h (λ given deeds. IsPart given deeds × (are_quiet is_quiet deeds ≡ quiet)) a b
  quiet_by IsPart a b quiet is done =
      let added : b.system.store.history ≡ a.system.store.history ++ entries_of done.deeds = done.runs.goes.leads.entries in
      let rest : drop (length a.system.store.history) b.system.store.history ≡ entries_of done.deeds = ap (λ (es : List Entry). drop (length a.system.store.history) es) added ∙ drop_first a.system.store.history (entries_of done.deeds) in
      done_so h IsPart (λ given deeds. IsPart given deeds × (are_quiet is_quiet deeds ≡ quiet)) a b done (done.part, sym (is ∙ ap (λ (es : List Entry). list_all is_quiet es) rest))

  -- it ends there where something wasn't quiet
  pub round_loud : (May : List Entry → ℕ → Type 0) (entries : List Entry) (a c : Run D M) → false ≡ list_all is_quiet (drop (length a.system.store.history) c.system.store.history) → IsDoneBy h (HasBegun May entries) a c → IsDoneBy h (IsRoundTo May a c false) a c
  round_loud May entries a c loud begun = done_as h (λ given deeds. HasBegun May entries given deeds × (are_quiet is_quiet deeds ≡ false)) (IsRoundTo May a c false) a c
      (λ deeds is. (
        (
          record {
            recalls = is.0.0;
            resumes = is.0.1;
            migrates = [];
            parted = is.0.2 ∙ ap (λ (ds : List Deed). is.0.0 ++ ds) (sym (append-nil is.0.1));
            recall_turn = is.0.3.0;
            resumed = is.0.4;
            migrate_turn = subst (λ (q : Bool). IsTurnIf q Migrate (given_now a) []) (sym (ap (are_quiet is_quiet) (sym is.0.2) ∙ is.1)) refl;
          },
          is.1,
        ),
        λ quiet. let wrong : false ≡ true = quiet in cc wrong,
      ))
      (quiet_by (HasBegun May entries) a c false loud begun)

  -- migration's turn is by what it gave before the round
  migrate_same : (a b c : Run D M) → HasTurned Recall a b → HaveResumed b c → (given_now c).migrate ≡ (given_now a).migrate
  migrate_same a b c turned resumed = ap (λ (o : Option Migrating). option_map (λ (m : Migrating). m.machine.asked) o) (resumed.migrate ∙ turned.alone)

  abbrev BegunOf : (List Entry → ℕ → Type 0) → List Entry → Run D M → Given → List Deed → Type 0
  BegunOf May entries a given deeds = (HasBegun May entries given deeds × (are_quiet is_quiet deeds ≡ true)) × ((given_behind deeds given).migrate ≡ (given_now a).migrate)

  begun_of : (May : List Entry → ℕ → Type 0) (a b c : Run D M) (turned : HasTurned Recall a b) → HaveResumed b c → true ≡ list_all is_quiet (drop (length a.system.store.history) c.system.store.history) → IsDoneBy h (HasBegun May turned.entries) a c → IsDoneBy h (BegunOf May turned.entries a) a c
  begun_of May a b c turned resumed calm begun =
      done_to h (λ given deeds. HasBegun May turned.entries given deeds × (are_quiet is_quiet deeds ≡ true)) (λ (given : Given). given.migrate ≡ (given_now a).migrate) a c (migrate_same a b c turned resumed) (quiet_by (HasBegun May turned.entries) a c true calm begun)

  module _ (May : List Entry → ℕ → Type 0) (a b c d : Run D M) (quiet : Bool) (turned : HasTurned Recall a b) (resumed : HaveResumed b c) (migrated : HasTurned Migrate c d) where
    -- with the marks of both turns
    abbrev IsMarkedRound : Given → List Deed → Type 0
    IsMarkedRound given deeds = IsRound is_quiet May given deeds × EndsInTurns (marks_of deeds) turned.entries migrated.entries

    pub round_done : true ≡ list_all is_quiet (drop (length a.system.store.history) c.system.store.history) → quiet ≡ list_all is_quiet (drop (length a.system.store.history) d.system.store.history)
        → IsDoneBy h (HasBegun May turned.entries) a c → IsDoneBy h (IsTurn Migrate) c d → IsDoneBy h (IsRoundTo May a d quiet) a d
    round_done calm is begun turn = done_as h (λ given deeds. IsMarkedRound given deeds × (are_quiet is_quiet deeds ≡ quiet)) (IsRoundTo May a d quiet) a d
        (λ deeds so. ((so.0.0, so.1), λ all_quiet. round_ends a b c d turned resumed migrated (sym (sym all_quiet ∙ is)) (marks_of deeds) so.0.1))
        (quiet_by IsMarkedRound a d quiet is (done_then h (BegunOf May turned.entries a) (IsTurnWith Migrate migrated.entries) IsMarkedRound a c d
        (λ deeds more so then. (
          record {
            recalls = so.0.0.0;
            resumes = so.0.0.1;
            migrates = more;
            parted = ap (λ (ds : List Deed). ds ++ more) so.0.0.2 ∙ append_assoc so.0.0.0 so.0.0.1 more;
            recall_turn = so.0.0.3.0;
            resumed = so.0.0.4;
            migrate_turn = subst (λ (q : Bool). IsTurnIf q Migrate (given_now a) more) (sym (ap (are_quiet is_quiet) (sym so.0.0.2) ∙ so.0.1)) (subst (λ (o : Option Act). IsTurnFrom Migrate o more) so.1 then.0);
          },
          turns_end so.0.0.0 so.0.0.1 deeds so.0.0.2 so.0.1 May (given_behind so.0.0.0 (given_now a)) so.0.0.4 more turned.entries migrated.entries (given_of Recall (given_now a)) so.0.0.3.0 so.0.0.3.1 (given_of Migrate (given_behind deeds (given_now a))) then.0 then.1,
        ))
        (begun_of May a b c turned resumed calm begun) (turn_with Migrate c d migrated turn)))

  -- ---- rounds that were stopped

  pub recall_cut : (May : List Entry → ℕ → Type 0) (why : Stop) (a b : Run D M) → IsStoppedBy h (IsTurnCut Recall) why a b → IsStoppedBy h (IsRoundCut is_quiet May) why a b
  recall_cut May why a b stopped = stopped_as h (IsTurnCut Recall) (IsRoundCut is_quiet May) why a b (λ ending deeds cut. inl cut) stopped

  pub resumes_cut_by : (why : Stop) (a b c : Run D M) → b.system.store.opened ≡ a.system.store.opened → IsDoneBy h (IsTurn Recall) a b → IsStoppedBy h (AreResumesCut (MayGoOn b.system.store)) why b c → IsStoppedBy h (IsRoundCut is_quiet (MayGoOn a.system.store)) why a c
  resumes_cut_by why a b c opened turn stopped = stopped_then h (IsTurn Recall) (AreResumesCut (MayGoOn a.system.store)) (IsRoundCut is_quiet (MayGoOn a.system.store)) why a b c (λ ending deeds last is cut. inr (inl (deeds, last, refl, is, cut)))
      turn (stopped_since h (IsTurn Recall) a b turn opened AreResumesCut why c stopped)

  pub migrate_cut : (May : List Entry → ℕ → Type 0) (why : Stop) (a b c d : Run D M) (turned : HasTurned Recall a b) → HaveResumed b c → true ≡ list_all is_quiet (drop (length a.system.store.history) c.system.store.history) → IsDoneBy h (HasBegun May turned.entries) a c → IsStoppedBy h (IsTurnCut Migrate) why c d → IsStoppedBy h (IsRoundCut is_quiet May) why a d
  migrate_cut May why a b c d turned resumed calm begun stopped = stopped_then h (BegunOf May turned.entries a) (IsTurnCut Migrate) (IsRoundCut is_quiet May) why a c d
      (λ ending deeds last so cut. inr (inr (
        so.0.0.0,
        so.0.0.1,
        last,
        ap (λ (ds : List Deed). ds ++ last) so.0.0.2 ∙ append_assoc so.0.0.0 so.0.0.1 last,
        so.0.0.3.0,
        so.0.0.4,
        ap (are_quiet is_quiet) (sym so.0.0.2) ∙ so.0.1,
        subst (λ (o : Option Act). IsTurnCutFrom Migrate o ending last) so.1 cut,
      )))
      (begun_of May a b c turned resumed calm begun) stopped

  -- ---- settles

  pub settle_begun : (a b : Run D M) → RunsBy h (Refreshes ∷ []) a b → b ≡ refreshed a → IsDoneBy h (RoundsTo is_quiet (MayGoOn a.system.store)) a b
  settle_begun a b runs is = record {
    deeds = Refreshes ∷ [];
    part = rounds_none is_quiet (MayGoOn a.system.store) (given_now a);
    runs = runs;
    grows = subst (λ (s : Run D M). GrowsBy h (Refreshes ∷ []) a s) (sym is) (refresh_grows h a);
    works = inl (ap (λ (s : Run D M). s.system.store) is);
  }

  module _ (a b c : Run D M) (opened : b.system.store.opened ≡ a.system.store.opened) (first : IsDoneBy h (RoundsTo is_quiet (MayGoOn a.system.store)) a b) where
    abbrev may_at_first : List Entry → ℕ → Type 0
    may_at_first = MayGoOn a.system.store

    abbrev Rounds : Given → List Deed → Type 0
    Rounds = RoundsTo is_quiet may_at_first

    module _ (quiet : Bool) (round : IsDoneBy h (IsRoundTo (MayGoOn b.system.store) b c quiet) b c) where
      round_now : IsDoneBy h (IsRoundTo may_at_first b c quiet) b c
      round_now = done_since h Rounds a b first opened (λ may. IsRoundTo may b c quiet) c round

      pub settle_on : quiet ≡ false → IsDoneBy h Rounds a c
      settle_on loud = done_then h Rounds (IsRoundTo may_at_first b c quiet) Rounds a b c (λ deeds more so is. rounds_on is_quiet may_at_first (given_now a) deeds so more is.0.0 (is.0.1 ∙ loud)) first round_now

      -- the last deeds are those of the turns in which it has come to rest
      abbrev pub IsSettleMarked : Given → List Deed → Type 0
      IsSettleMarked given deeds = IsSettle is_quiet may_at_first given deeds × EndsMarked b c deeds

      pub settle_done : quiet ≡ true → IsDoneBy h IsSettleMarked a c
      settle_done calm = done_then h Rounds (IsRoundTo may_at_first b c quiet) IsSettleMarked a b c
          (λ deeds more so is. (rounds_settle is_quiet may_at_first (given_now a) deeds so more is.0.0 (is.0.1 ∙ calm), ends_behind b c deeds more (is.1 calm))) first round_now

    pub settle_stopped : (why : Stop) → IsStoppedBy h (IsRoundCut is_quiet (MayGoOn b.system.store)) why b c → IsStoppedBy h (IsSettleCut is_quiet may_at_first) why a c
    settle_stopped why cut = stopped_then h Rounds (IsRoundCut is_quiet may_at_first) (IsSettleCut is_quiet may_at_first) why a b c (λ ending deeds last so is. rounds_cut is_quiet may_at_first (given_now a) deeds so last ending is)
        first (stopped_since h Rounds a b first opened (λ may. IsRoundCut is_quiet may) why c cut)
