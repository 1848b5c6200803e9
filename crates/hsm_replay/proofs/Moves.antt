-- How a marked history grows by an act of a daemon, and ends where that stopped the run; and how the store goes on.
use Rattle.std.proofs.Common.{◌≡◌, ◌∙◌, ◌∷◌, ◌++◌, [], ℕ, List, Some, Result, Ok, Err, OnOk, IfErr, inl, inr, sym}
use Rattle.std.proofs.Common.{ap, subst}
use Rattle.std.specs.Prelude.{slice_set}
use Rattle.disk_model.specs.declared.device.Disk as disk
use Rattle.media_model.specs.declared.drive.Drive as drive
use Rattle.hsm_types.specs.Stubs.{entry_place}
use Rattle.hsm_types.specs.declared.daemons.Act.{Act}
use Rattle.hsm_types.specs.declared.daemons.Act.TheVariants.{Dm, Copy, Fetch, Idle}
use Rattle.hsm_types.specs.declared.daemons.Daemon.{Daemon}
use Rattle.hsm_types.specs.declared.daemons.Daemon.TheVariants.{Recall, Migrate}
use Rattle.hsm_types.specs.declared.daemons.Heard.{Heard}
use Rattle.hsm_types.specs.declared.daemons.Heard.TheVariants as heard
use Rattle.hsm_types.specs.declared.dm.DmCall.{DmCall}
use Rattle.hsm_types.specs.declared.dm.DmReply.{DmReply}
use Rattle.hsm_types.specs.declared.keys.Sid.{Sid}
use Rattle.hsm_types.specs.declared.stubs.StubEntry.{StubEntry}
use Rattle.plain_model.specs.declared.entries.Action.TheVariants as action
use Rattle.plain_model.specs.declared.entries.Actor.TheVariants.{Session}
use Rattle.plain_model.specs.declared.entries.Answer.TheVariants as answer
use Rattle.hsm_core.specs.Store.{Store}
use Rattle.deeds.specs.Deeds.{Deed, Gives, Hears, Breaks, entry_of}
use Rattle.recall_daemon.specs.Machine as recaller
use Rattle.migrate_daemon.specs.Machine as migrator
use Rattle.hsm_system.specs.Running.{Recalling, Migrating}
use Rattle.hsm_system.specs.declared.stops.Stop.{Stop}
use Rattle.hsm_system.specs.declared.stops.Stop.TheVariants as stop
use Rattle.hsm_system.specs.Acts.{MovesOn, Serves, StopsCall}
use Rattle.hsm_system.specs.Events.{Runs}
use Rattle.hsm_system.specs.Stops.{reply_of}
use Rattle.hsm_system.specs.Systems.{System, hearing}
use Rattle.hsm_system.proofs.Done.{session_stop}
use Rattle.hsm_system.proofs.AfterEvents.{goes_itself, event_goes, stopped_for}
use Rattle.hsm_system.proofs.Leading.{heard_store}
use Rattle.hsm_replay.specs.Acts.{Performs, Stops, FetchesFrom, CopiesTo}
use Rattle.hsm_replay.specs.Drives.{HasGrown, HaveGrown}
use Rattle.hsm_replay.specs.Faults.{faults_in}
use Rattle.hsm_replay.specs.Keeping.{GrowsBy, Ends}
use Rattle.hsm_replay.specs.Steps.{Steps, Halts}
use Rattle.hsm_replay.specs.Systems.{Run, drive_of, told_next}
use Rattle.hsm_replay.proofs.Fetching.{heard_of_fetch}
use Rattle.hsm_replay.proofs.Growing.{have_grown_itself, grown_at, reads_grow, grows_grow}
use Rattle.hsm_replay.proofs.ActSteps.{recall_waits, migrate_waits, recall_left, migrate_left}
use Rattle.hsm_replay.proofs.ActSteps.{recall_behind_call, recall_behind_fetch, recall_behind_stop, migrate_behind_call, migrate_behind_copy, migrate_behind_stop}
use Rattle.hsm_replay.proofs.Sealing.{heard_of_missing, heard_of_copy}
use Rattle.hsm_replay.proofs.Stepping.{recall_marked, recall_called, recall_went, migrate_marked, migrate_called, migrate_went}
use Rattle.hsm_replay.proofs.Telling.{told_kept}

-- what a copy or a fetch changes has grown
copied_grown : {M : Type 0} (h : drive.Ghosts M) (volume : ℕ) (handle : _) (segment : ℕ) (bytes : List ℕ) (copied : _) (d e : M) → CopiesTo h volume handle segment bytes copied d e → HasGrown h d e
copied_grown h volume handle segment bytes copied d e copies = grows_grow h volume d e copies.1

fetched_grown : {M : Type 0} (h : drive.Ghosts M) (entry : StubEntry) (fetched : _) (d e : M) → FetchesFrom h entry fetched d e → HasGrown h d e
fetched_grown h entry fetched d e fetches = reads_grow h d e fetches.1

-- an act, and what is heard of it
abbrev of_act : Daemon → Act → Heard → List Deed
of_act daemon asked told = Gives daemon asked ∷ Hears daemon asked told ∷ []

-- a call that a fault of the disk broke
abbrev of_break : Daemon → Sid → DmCall → List Deed
of_break daemon sid call = Gives daemon (Dm sid call) ∷ Breaks daemon sid call ∷ []

-- a machine that gives an act leaves the store alone
pub moved_store : {D : Type 0} (daemon : Daemon) (old : System D) (asked : Act) (moved : System D) → MovesOn daemon old asked moved → moved.store ≡ old.store
moved_store Recall old asked moved moves = ap (λ (s : System _). s.store) moves.6
moved_store Migrate old asked moved moves = ap (λ (s : System _). s.store) moves.6

module _ {D M : Type 0} (g : disk.Ghosts D) (h : drive.Ghosts M) where
  -- what is heard of an act that was performed
  abbrev pub told_of : (daemon : Daemon) (s : Run D M) (asked : Act) (new : Run D M) → Performs g h daemon s asked new → Heard
  told_of daemon s (Dm sid call) new performs = heard.Dm performs.0.0
  told_of daemon s (Copy volume handle segment bytes) new performs = heard.Copied performs.0
  told_of daemon s (Fetch entry) new performs = heard.Fetched performs.0
  told_of daemon s Idle new performs = heard.Nothing

  module _ (old : Run D M) where
    -- ---- recall

    module _ (r : Recalling) (machine : recaller.Machine) (runs : old.system.recall ≡ Some r) (new : Run D M) where
      recall_grows : (asked : Act) → recaller.StepsOn r.machine (told_next r.next) asked machine → (performs : Performs g h Recall (recall_waits old machine asked) asked new)
          → GrowsBy h (of_act Recall asked (told_of Recall (recall_waits old machine asked) asked new performs)) old new
      recall_grows (Dm sid call) goes performs =
          subst (λ (s : Run D M). GrowsBy h (of_act Recall (Dm sid call) (heard.Dm performs.0.0)) old s) (sym (recall_behind_call g h old new machine sid call performs))
          (λ opened marks shows. recall_called h opened marks old shows r machine runs sid call performs.0.0 goes performs.0.1.store performs.0.2.added)
      recall_grows (Copy volume handle segment bytes) goes performs = absurd goes.may
      recall_grows (Fetch entry) goes performs =
          let on = performs.3 in
          let drives : List M = slice_set old.drives (drive_of (entry_place entry).volume old.drives) on.1 in
          let grown : HaveGrown h old.drives drives = grown_at h (drive_of (entry_place entry).volume old.drives) old.drives on.0 on.1 on.2 (fetched_grown h entry performs.0 on.0 on.1 on.3) in
          subst (λ (s : Run D M). GrowsBy h (of_act Recall (Fetch entry) (heard.Fetched performs.0)) old s) (sym (recall_behind_fetch g h old new machine entry performs))
          (λ opened marks shows. recall_went h opened marks old shows r machine runs (Fetch entry) (heard.Fetched performs.0) tt goes drives grown (heard_of_fetch h old.drives entry on.0 on.1 on.2 (faults_in old.system.store.history) shows.marked.faults.each performs.0 on.3)
          (heard_of_missing h opened old.drives old.system.limits marks shows.marked.sealed entry on.0 on.1 on.2 performs.0 on.3))
      recall_grows Idle goes performs =
          let is : new ≡ recall_left old machine heard.Nothing old.system.store old.drives = performs in
          subst (λ (s : Run D M). GrowsBy h (of_act Recall Idle heard.Nothing) old s) (sym is)
          (λ opened marks shows. recall_went h opened marks old shows r machine runs Idle heard.Nothing tt goes old.drives (have_grown_itself h old.drives) tt tt)

      recall_broken : (sid : Sid) (call : DmCall) (why : Stop) → recaller.StepsOn r.machine (told_next r.next) (Dm sid call) machine → Stops g h Recall (recall_waits old machine (Dm sid call)) (Dm sid call) why new
          → new.system.store.history ≡ old.system.store.history ++ entry_of (Session sid) (action.Dm call) (answer.Dm (reply_of stop.Disk)) ∷ [] → Ends h (of_break Recall sid call) old new
      recall_broken sid call why goes stops kept =
          let is : new ≡ recall_left old machine heard.Nothing stops.0.0.store old.drives = recall_behind_stop g h old new machine sid call why stops in
          let added : stops.0.0.store.history ≡ old.system.store.history ++ entry_of (Session sid) (action.Dm call) (answer.Dm (reply_of stop.Disk)) ∷ [] = sym (ap (λ (s : Run D M). s.system.store.history) is) ∙ kept in
          subst (λ (s : Run D M). Ends h (of_break Recall sid call) old s) (sym is) (λ opened marks shows. recall_marked h opened marks old shows r machine runs sid call (reply_of stop.Disk) goes heard.Nothing stops.0.0.store added)

    -- ---- migration

    module _ (m : Migrating) (machine : migrator.Machine) (runs : old.system.migrate ≡ Some m) (new : Run D M) where
      migrate_grows : (asked : Act) → migrator.StepsOn m.machine (told_next m.next) asked machine → (performs : Performs g h Migrate (migrate_waits old machine asked) asked new)
          → GrowsBy h (of_act Migrate asked (told_of Migrate (migrate_waits old machine asked) asked new performs)) old new
      migrate_grows (Dm sid call) goes performs =
          subst (λ (s : Run D M). GrowsBy h (of_act Migrate (Dm sid call) (heard.Dm performs.0.0)) old s) (sym (migrate_behind_call g h old new machine sid call performs))
          (λ opened marks shows. migrate_called h opened marks old shows m machine runs sid call performs.0.0 goes performs.0.1.store performs.0.2.added)
      migrate_grows (Copy volume handle segment bytes) goes performs =
          let on = performs.3 in
          let drives : List M = slice_set old.drives (drive_of volume old.drives) on.1 in
          let grown : HaveGrown h old.drives drives = grown_at h (drive_of volume old.drives) old.drives on.0 on.1 on.2 (copied_grown h volume handle segment bytes performs.0 on.0 on.1 on.3) in
          subst (λ (s : Run D M). GrowsBy h (of_act Migrate (Copy volume handle segment bytes) (heard.Copied performs.0)) old s) (sym (migrate_behind_copy g h old new machine volume handle segment bytes performs))
          (λ opened marks shows. migrate_went h opened marks old shows m machine runs (Copy volume handle segment bytes) (heard.Copied performs.0) tt goes drives grown (heard_of_copy h old.drives volume segment handle bytes on.0 on.1 on.2 performs.0 on.3))
      migrate_grows (Fetch entry) goes performs = absurd goes.may
      migrate_grows Idle goes performs =
          let is : new ≡ migrate_left old machine heard.Nothing old.system.store old.drives = performs in
          subst (λ (s : Run D M). GrowsBy h (of_act Migrate Idle heard.Nothing) old s) (sym is)
          (λ opened marks shows. migrate_went h opened marks old shows m machine runs Idle heard.Nothing tt goes old.drives (have_grown_itself h old.drives) tt)

      migrate_broken : (sid : Sid) (call : DmCall) (why : Stop) → migrator.StepsOn m.machine (told_next m.next) (Dm sid call) machine → Stops g h Migrate (migrate_waits old machine (Dm sid call)) (Dm sid call) why new
          → new.system.store.history ≡ old.system.store.history ++ entry_of (Session sid) (action.Dm call) (answer.Dm (reply_of stop.Disk)) ∷ [] → Ends h (of_break Migrate sid call) old new
      migrate_broken sid call why goes stops kept =
          let is : new ≡ migrate_left old machine heard.Nothing stops.0.0.store old.drives = migrate_behind_stop g h old new machine sid call why stops in
          let added : stops.0.0.store.history ≡ old.system.store.history ++ entry_of (Session sid) (action.Dm call) (answer.Dm (reply_of stop.Disk)) ∷ [] = sym (ap (λ (s : Run D M). s.system.store.history) is) ∙ kept in
          subst (λ (s : Run D M). Ends h (of_break Migrate sid call) old s) (sym is) (λ opened marks shows. migrate_marked h opened marks old shows m machine runs sid call (reply_of stop.Disk) goes heard.Nothing stops.0.0.store added)

    -- ---- either

    abbrev Grows : Daemon → Act → Run D M → System D → Type 0
    Grows daemon asked new s = (performs : Performs g h daemon (record old { system = s }) asked new) → GrowsBy h (of_act daemon asked (told_of daemon (record old { system = s }) asked new performs)) old new

    pub act_grows : (daemon : Daemon) (asked : Act) (moved : System D) → MovesOn daemon old.system asked moved → (new : Run D M) → Grows daemon asked new moved
    act_grows Recall asked moved moves new =
        subst (Grows Recall asked new) (sym moves.6) (recall_grows moves.0 moves.1 moves.3 new asked (told_kept (λ (t : Heard). recaller.StepsOn moves.0.machine t asked moves.1) moves.0.next moves.2 moves.4 moves.5))
    act_grows Migrate asked moved moves new =
        subst (Grows Migrate asked new) (sym moves.6) (migrate_grows moves.0 moves.1 moves.3 new asked (told_kept (λ (t : Heard). migrator.StepsOn moves.0.machine t asked moves.1) moves.0.next moves.2 moves.4 moves.5))

    pub call_ends : (daemon : Daemon) (sid : Sid) (call : DmCall) (moved : System D) → MovesOn daemon old.system (Dm sid call) moved → (why : Stop) (new : Run D M) → Stops g h daemon (record old { system = moved }) (Dm sid call) why new
        → new.system.store.history ≡ old.system.store.history ++ entry_of (Session sid) (action.Dm call) (answer.Dm (reply_of stop.Disk)) ∷ [] → Ends h (of_break daemon sid call) old new
    call_ends Recall sid call moved moves why new stops =
        recall_broken moves.0 moves.1 moves.3 new sid call why (told_kept (λ (t : Heard). recaller.StepsOn moves.0.machine t (Dm sid call) moves.1) moves.0.next moves.2 moves.4 moves.5)
        (subst (λ (s : System D). Stops g h Recall (record old { system = s }) (Dm sid call) why new) moves.6 stops)
    call_ends Migrate sid call moved moves why new stops =
        migrate_broken moves.0 moves.1 moves.3 new sid call why (told_kept (λ (t : Heard). migrator.StepsOn moves.0.machine t (Dm sid call) moves.1) moves.0.next moves.2 moves.4 moves.5)
        (subst (λ (s : System D). Stops g h Migrate (record old { system = s }) (Dm sid call) why new) moves.6 stops)

  -- ---- how the store goes on

  -- no event
  still_runs : (s t : Store D) → t ≡ s → Runs g {T = Unit {0}} (Ok tt) s t
  still_runs s t same = subst (λ (x : Store D). Runs g {T = Unit {0}} (Ok tt) s x) (sym same) (record { goes_on = goes_itself g s; works = λ working. working })

  lacked_runs : (why : Stop) (s t : Store D) → why ≡ stop.Memory → t ≡ s → Runs g {T = Unit {0}} (Err why) s t
  lacked_runs why s t lacks same =
      subst (λ (w : Stop). Runs g {T = Unit {0}} (Err w) s t) (sym lacks) (subst (λ (x : Store D). Runs g {T = Unit {0}} (Err stop.Memory) s x) (sym same) (record { goes_on = goes_itself g s; works = λ working. working }))

  heard_alone : (daemon : Daemon) (told : Heard) (s new : System D) → new ≡ hearing daemon told s → new.store ≡ s.store
  heard_alone daemon told s new is = ap (λ (x : System D). x.store) is ∙ heard_store daemon told s

  served_runs : (sid : Sid) (call : DmCall) (reply : DmReply) (old left : System D) → Serves g sid call reply old left → Runs g {T = Unit {0}} (Ok tt) old.store left.store
  served_runs sid call reply old left serves = record { goes_on = event_goes g old.store (Session sid) (action.Dm call) (answer.Dm reply) left.store serves.made.told; works = λ working. serves.still }

  stopped_runs : (why : Stop) (sid : Sid) (call : DmCall) (old left : System D) → StopsCall g sid call why old left → Runs g {T = Unit {0}} (Err why) old.store left.store
  stopped_runs why sid call old left stops = record {
    goes_on = event_goes g old.store (Session sid) (action.Dm call) (answer.Dm (reply_of why)) left.store stops.made.told;
    works = stopped_for g old.store (Session sid) (action.Dm call) (answer.Dm (reply_of why)) left.store why stops.made.told (session_stop why call);
  }

  performs_runs : (daemon : Daemon) (s : Run D M) (asked : Act) (new : Run D M) → Performs g h daemon s asked new → Runs g {T = Unit {0}} (Ok tt) s.system.store new.system.store
  performs_runs daemon s (Dm sid call) new performs =
      subst (λ (x : Store D). Runs g {T = Unit {0}} (Ok tt) s.system.store x) (sym (heard_alone daemon (heard.Dm performs.0.0) performs.0.1 new.system performs.0.3)) (served_runs sid call performs.0.0 s.system performs.0.1 performs.0.2)
  performs_runs daemon s (Copy volume handle segment bytes) new performs = still_runs s.system.store new.system.store (heard_alone daemon (heard.Copied performs.0) s.system new.system performs.2)
  performs_runs daemon s (Fetch entry) new performs = still_runs s.system.store new.system.store (heard_alone daemon (heard.Fetched performs.0) s.system new.system performs.2)
  performs_runs daemon s Idle new performs = still_runs s.system.store new.system.store (heard_alone daemon heard.Nothing s.system new.system (ap (λ (x : Run D M). x.system) performs))

  stops_runs : (daemon : Daemon) (s : Run D M) (asked : Act) (why : Stop) (new : Run D M) → Stops g h daemon s asked why new → Runs g {T = Unit {0}} (Err why) s.system.store new.system.store
  stops_runs daemon s (Dm sid call) why new stops =
      subst (λ (x : Store D). Runs g {T = Unit {0}} (Err why) s.system.store x) (sym (heard_alone daemon heard.Nothing stops.0.0 new.system stops.0.2)) (stopped_runs why sid call s.system stops.0.0 stops.0.1)
  stops_runs daemon s (Copy volume handle segment bytes) why new stops = lacked_runs why s.system.store new.system.store stops.0 (heard_alone daemon heard.Nothing s.system new.system stops.1)
  stops_runs daemon s (Fetch entry) why new stops = lacked_runs why s.system.store new.system.store stops.0 (heard_alone daemon heard.Nothing s.system new.system stops.1)
  stops_runs daemon s Idle why new stops = absurd stops

  -- ---- a step

  pub step_moves : (daemon : Daemon) (result : Result (Unit {0}) Stop) (old new : Run D M) → OnOk result (Steps g h daemon old new) → IfErr result (λ why. Halts g h daemon old why new) → Runs g result old.system.store new.system.store
  step_moves daemon (Ok tt) old new (inl down) halts = still_runs old.system.store new.system.store (ap (λ (s : Run D M). s.system.store) down.1)
  step_moves daemon (Ok tt) old new (inr acts) halts =
      subst (λ (x : Store D). Runs g {T = Unit {0}} (Ok tt) x new.system.store) (moved_store daemon old.system acts.act acts.moved acts.moves) (performs_runs daemon (record old { system = acts.moved }) acts.act new acts.performs)
  step_moves daemon (Err why) old new steps (inl lacks) = lacked_runs why old.system.store new.system.store lacks.0.lacks (heard_alone daemon heard.Nothing old.system new.system lacks.0.loses)
  step_moves daemon (Err why) old new steps (inr stopped) =
      subst (λ (x : Store D). Runs g {T = Unit {0}} (Err why) x new.system.store) (moved_store daemon old.system stopped.act stopped.moved stopped.moves) (stops_runs daemon (record old { system = stopped.moved }) stopped.act why new stopped.stops)
