-- What a step comes to, by its act.
use Rattle.std.proofs.Common.{◌≡◌, ◌∙◌, ℕ, List, Some, ap, ap₂, subst}
use Rattle.std.specs.Prelude.{slice_set}
use Rattle.disk_model.specs.declared.device.Disk as disk
use Rattle.media_model.specs.declared.drive.Drive as drive
use Rattle.hsm_types.specs.Stubs.{entry_place}
use Rattle.hsm_types.specs.declared.daemons.Act.{Act}
use Rattle.hsm_types.specs.declared.daemons.Act.TheVariants.{Dm, Copy, Fetch}
use Rattle.hsm_types.specs.declared.daemons.Daemon.TheVariants.{Recall, Migrate}
use Rattle.hsm_types.specs.declared.daemons.Heard.{Heard}
use Rattle.hsm_types.specs.declared.daemons.Heard.TheVariants as heard
use Rattle.hsm_types.specs.declared.dm.DmCall.{DmCall}
use Rattle.hsm_types.specs.declared.keys.Handle.{Handle}
use Rattle.hsm_types.specs.declared.keys.Sid.{Sid}
use Rattle.hsm_types.specs.declared.stubs.StubEntry.{StubEntry}
use Rattle.hsm_core.specs.Store.{Store}
use Rattle.recall_daemon.specs.Machine as recaller
use Rattle.migrate_daemon.specs.Machine as migrator
use Rattle.hsm_system.specs.Awaiting.{awaited_of}
use Rattle.hsm_system.specs.Systems.{System, hearing}
use Rattle.hsm_system.specs.Running.{Recalling, Migrating}
use Rattle.hsm_system.specs.declared.daemons.Next.TheVariants.{Hears, Waits}
use Rattle.hsm_system.specs.declared.stops.Stop.{Stop}
use Rattle.hsm_replay.specs.Acts.{Performs, Stops}
use Rattle.hsm_replay.specs.Steps.{Acts, IsStopped}
use Rattle.hsm_replay.specs.Systems.{Run, drive_of, told_next}
use Rattle.hsm_replay.proofs.Telling.{told_kept}

-- a machine has gone on, and waits for what comes of its act
abbrev pub recall_waits : {D M : Type 0} → Run D M → recaller.Machine → Act → Run D M
recall_waits old machine act = record old { system = record old.system { recall = Some (record { machine = machine; next = Waits (awaited_of act) }) } }

abbrev pub migrate_waits : {D M : Type 0} → Run D M → migrator.Machine → Act → Run D M
migrate_waits old machine act = record old { system = record old.system { migrate = Some (record { machine = machine; next = Waits (awaited_of act) }) } }

-- and hears this next
abbrev pub recall_left : {D M : Type 0} → Run D M → recaller.Machine → Heard → Store D → List M → Run D M
recall_left old machine told store drives =
    record old { system = record old.system { store = store; recall = Some (record { machine = machine; next = Hears told }) }; drives = drives }

abbrev pub migrate_left : {D M : Type 0} → Run D M → migrator.Machine → Heard → Store D → List M → Run D M
migrate_left old machine told store drives =
    record old { system = record old.system { store = store; migrate = Some (record { machine = machine; next = Hears told }) }; drives = drives }

module _ {D M : Type 0} (g : disk.Ghosts D) (h : drive.Ghosts M) where
  -- ---- recall

  -- its machine has gone on by that act
  pub record RecallActs (old new : Run D M) : Type 0 where
    pub before : Recalling
    pub machine : recaller.Machine
    pub runs : old.system.recall ≡ Some before
    pub act : Act
    pub goes : recaller.StepsOn before.machine (told_next before.next) act machine
    pub performs : Performs g h Recall (recall_waits old machine act) act new

  pub recall_acts : (old new : Run D M) → Acts g h Recall old new → RecallActs old new
  recall_acts old new acts =
      let moves = acts.moves in
      record {
        before = moves.0;
        machine = moves.1;
        runs = moves.3;
        act = acts.act;
        goes = told_kept (λ (t : Heard). recaller.StepsOn moves.0.machine t acts.act moves.1) moves.0.next moves.2 moves.4 moves.5;
        performs = subst (λ (s : System D). Performs g h Recall (record old { system = s }) acts.act new) moves.6 acts.performs;
      }

  pub record RecallStops (old : Run D M) (why : Stop) (new : Run D M) : Type 0 where
    pub before : Recalling
    pub machine : recaller.Machine
    pub runs : old.system.recall ≡ Some before
    pub act : Act
    pub goes : recaller.StepsOn before.machine (told_next before.next) act machine
    pub stops : Stops g h Recall (recall_waits old machine act) act why new

  pub recall_stops : (old : Run D M) (why : Stop) (new : Run D M) → IsStopped g h Recall old why new → RecallStops old why new
  recall_stops old why new stopped =
      let moves = stopped.moves in
      record {
        before = moves.0;
        machine = moves.1;
        runs = moves.3;
        act = stopped.act;
        goes = told_kept (λ (t : Heard). recaller.StepsOn moves.0.machine t stopped.act moves.1) moves.0.next moves.2 moves.4 moves.5;
        stops = subst (λ (s : System D). Stops g h Recall (record old { system = s }) stopped.act why new) moves.6 stopped.stops;
      }

  module _ (old new : Run D M) (machine : recaller.Machine) where
    -- behind a call
    pub recall_behind_call : (sid : Sid) (asked : DmCall) (performs : Performs g h Recall (recall_waits old machine (Dm sid asked)) (Dm sid asked) new)
        → new ≡ recall_left old machine (heard.Dm performs.0.0) performs.0.1.store old.drives
    recall_behind_call sid asked performs =
        performs.1 ∙ ap (λ (s : System D). record old { system = s }) (performs.0.3 ∙ ap (λ (s : System D). hearing Recall (heard.Dm performs.0.0) s) performs.0.2.made.rest)

    -- behind a fetch
    pub recall_behind_fetch : (entry : StubEntry) (performs : Performs g h Recall (recall_waits old machine (Fetch entry)) (Fetch entry) new)
        → new ≡ recall_left old machine (heard.Fetched performs.0) old.system.store (slice_set old.drives (drive_of (entry_place entry).volume old.drives) performs.3.1)
    recall_behind_fetch entry performs = ap₂ (λ (s : System D) (ds : List M). record old { system = s; drives = ds }) performs.2 performs.3.4

    pub recall_behind_stop : (sid : Sid) (asked : DmCall) (why : Stop) (stops : Stops g h Recall (recall_waits old machine (Dm sid asked)) (Dm sid asked) why new)
        → new ≡ recall_left old machine heard.Nothing stops.0.0.store old.drives
    recall_behind_stop sid asked why stops =
        stops.1 ∙ ap (λ (s : System D). record old { system = s }) (stops.0.2 ∙ ap (λ (s : System D). hearing Recall heard.Nothing s) stops.0.1.made.rest)

  -- ---- migration

  pub record MigrateActs (old new : Run D M) : Type 0 where
    pub before : Migrating
    pub machine : migrator.Machine
    pub runs : old.system.migrate ≡ Some before
    pub act : Act
    pub goes : migrator.StepsOn before.machine (told_next before.next) act machine
    pub performs : Performs g h Migrate (migrate_waits old machine act) act new

  pub migrate_acts : (old new : Run D M) → Acts g h Migrate old new → MigrateActs old new
  migrate_acts old new acts =
      let moves = acts.moves in
      record {
        before = moves.0;
        machine = moves.1;
        runs = moves.3;
        act = acts.act;
        goes = told_kept (λ (t : Heard). migrator.StepsOn moves.0.machine t acts.act moves.1) moves.0.next moves.2 moves.4 moves.5;
        performs = subst (λ (s : System D). Performs g h Migrate (record old { system = s }) acts.act new) moves.6 acts.performs;
      }

  pub record MigrateStops (old : Run D M) (why : Stop) (new : Run D M) : Type 0 where
    pub before : Migrating
    pub machine : migrator.Machine
    pub runs : old.system.migrate ≡ Some before
    pub act : Act
    pub goes : migrator.StepsOn before.machine (told_next before.next) act machine
    pub stops : Stops g h Migrate (migrate_waits old machine act) act why new

  pub migrate_stops : (old : Run D M) (why : Stop) (new : Run D M) → IsStopped g h Migrate old why new → MigrateStops old why new
  migrate_stops old why new stopped =
      let moves = stopped.moves in
      record {
        before = moves.0;
        machine = moves.1;
        runs = moves.3;
        act = stopped.act;
        goes = told_kept (λ (t : Heard). migrator.StepsOn moves.0.machine t stopped.act moves.1) moves.0.next moves.2 moves.4 moves.5;
        stops = subst (λ (s : System D). Stops g h Migrate (record old { system = s }) stopped.act why new) moves.6 stopped.stops;
      }

  module _ (old new : Run D M) (machine : migrator.Machine) where
    pub migrate_behind_call : (sid : Sid) (asked : DmCall) (performs : Performs g h Migrate (migrate_waits old machine (Dm sid asked)) (Dm sid asked) new)
        → new ≡ migrate_left old machine (heard.Dm performs.0.0) performs.0.1.store old.drives
    migrate_behind_call sid asked performs =
        performs.1 ∙ ap (λ (s : System D). record old { system = s }) (performs.0.3 ∙ ap (λ (s : System D). hearing Migrate (heard.Dm performs.0.0) s) performs.0.2.made.rest)

    -- behind a copy
    pub migrate_behind_copy : (volume : ℕ) (handle : Handle) (segment : ℕ) (bytes : List ℕ) (performs : Performs g h Migrate (migrate_waits old machine (Copy volume handle segment bytes)) (Copy volume handle segment bytes) new)
        → new ≡ migrate_left old machine (heard.Copied performs.0) old.system.store (slice_set old.drives (drive_of volume old.drives) performs.3.1)
    migrate_behind_copy volume handle segment bytes performs = ap₂ (λ (s : System D) (ds : List M). record old { system = s; drives = ds }) performs.2 performs.3.4

    pub migrate_behind_stop : (sid : Sid) (asked : DmCall) (why : Stop) (stops : Stops g h Migrate (migrate_waits old machine (Dm sid asked)) (Dm sid asked) why new)
        → new ≡ migrate_left old machine heard.Nothing stops.0.0.store old.drives
    migrate_behind_stop sid asked why stops =
        stops.1 ∙ ap (λ (s : System D). record old { system = s }) (stops.0.2 ∙ ap (λ (s : System D). hearing Migrate heard.Nothing s) stops.0.1.made.rest)
