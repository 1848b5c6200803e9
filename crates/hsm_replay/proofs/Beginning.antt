-- What starts and ends of daemons keep.
use Rattle.std.proofs.Common.{◌≡◌, ◌⊎◌, ◌++◌, ◌∷◌, [], ℕ, List, Option, Some, None, IfSome, Ok, true, inl, inr, refl, sym, ap, subst, append-nil, ◌∙◌}
use Rattle.std.specs.Option.{option_map, option_or}
use Rattle.disk_model.specs.declared.device.Disk as disk
use Rattle.media_model.specs.declared.drive.Drive as drive
use Rattle.hsm_types.specs.declared.daemons.Act.{Act}
use Rattle.hsm_types.specs.declared.daemons.Act.TheVariants.{Dm, Copy, Fetch, Idle}
use Rattle.hsm_types.specs.declared.daemons.Daemon.{Daemon}
use Rattle.hsm_types.specs.declared.daemons.Daemon.TheVariants.{Recall, Migrate}
use Rattle.hsm_types.specs.declared.daemons.Heard.{Heard}
use Rattle.hsm_types.specs.declared.daemons.Heard.TheVariants as heard
use Rattle.hsm_types.specs.declared.dm.DmCall.{DmCall}
use Rattle.hsm_types.specs.declared.dm.DmCall.TheVariants as dm_call
use Rattle.hsm_types.specs.declared.dm.DmReply.TheVariants as dm_reply
use Rattle.hsm_types.specs.declared.media.Fault.{Fault}
use Rattle.hsm_policy.specs.Settings.{Numbers}
use Rattle.daemon_session.specs.Seats.{Seat, seat_hears}
use Rattle.recall_daemon.specs.Known as recall
use Rattle.recall_daemon.specs.Machine as recaller
use Rattle.migrate_daemon.specs.Known as migrate
use Rattle.migrate_daemon.specs.Machine as migrator
use Rattle.hsm_system.specs.Running.{Recalling, Migrating}
use Rattle.hsm_replay.specs.Faults.{faults_in}
use Rattle.hsm_replay.specs.Keeping.{IsAtStart, IsShownAs, RecallKnows, MigrateKnows, Shows, GrowsBy}
use Rattle.marked_history.specs.Marks.{Mark}
use Rattle.deeds.specs.Lives.{untold}
use Rattle.hsm_system.specs.declared.daemons.Next.TheVariants.{Hears}
use Rattle.hsm_system.specs.Systems.{migrate_again}
use Rattle.hsm_replay.specs.Sealed.{HearsLost, HearsStored}
use Rattle.marked_history.specs.Served.{shown, nothing_shown}
use Rattle.hsm_replay.specs.Systems.{Run, started, killed, refreshed, told_next}
use Rattle.hsm_replay.proofs.Joining.{runs_itself}
use Rattle.deeds.specs.Deeds.{Starts, Kills, Refreshes}
use Rattle.hsm_system.specs.Events.{Runs}
use Rattle.hsm_replay.proofs.MigrateShown.{hears_same}
use Rattle.hsm_replay.proofs.Telling.{told_again}

module _ {M : Type 0} (h : drive.Ghosts M) (k : recall.Known) (drives : List M) (faults : List Fault) where
  recall_starts : (o : Option Recalling) → IfSome o (RecallKnows h k drives faults) → IfSome (option_or o (Some (record { machine = recaller.started; next = Hears heard.Nothing }))) (RecallKnows h k drives faults)
  recall_starts None knows = record { known = inl ((refl, refl, refl), refl); heard = tt }
  recall_starts (Some r) knows = knows

module _ (k : migrate.Known) where
  migrate_starts : (limits : Numbers) (o : Option Migrating) → IfSome o (MigrateKnows k) → IfSome (option_or o (Some (record { machine = migrator.started limits; next = Hears heard.Nothing }))) (MigrateKnows k)
  migrate_starts limits None knows = inl (refl, refl, refl)
  migrate_starts limits (Some m) knows = knows

  -- a machine that may begin a pass by `high` knows as much of all else
  abbrev pub fresh : migrate.Known → migrate.Known
  fresh known = record known { space = None; fresh = true }

  fresh_same : (known : migrate.Known) → IsShownAs (fresh known) known
  fresh_same known = record { seat = refl; punched = refl }

  fresh_knows : (limits : Numbers) (known : migrate.Known) (asked : Act) (told : Heard) → IsShownAs (migrate.knows_by limits (fresh known) asked told) (migrate.knows_by limits known asked told)
  fresh_knows limits known (Dm sid call) (heard.Dm reply) = hears_same limits limits (fresh known) known call reply (fresh_same known)
  fresh_knows limits known (Dm sid call) heard.Nothing = fresh_same known
  fresh_knows limits known (Dm sid call) (heard.Copied copied) = fresh_same known
  fresh_knows limits known (Dm sid call) (heard.Fetched fetched) = fresh_same known
  fresh_knows limits known (Copy volume handle segment bytes) told = fresh_same known
  fresh_knows limits known (Fetch entry) told = fresh_same known
  fresh_knows limits known Idle told = fresh_same known

  -- and one that isn't told of the space knows as much of all else
  seat_untold : (s : Seat) (c : DmCall) (used total : ℕ) → s ≡ seat_hears Migrate s c (dm_reply.Space used total)
  seat_untold s dm_call.GetAllSessions used total = refl
  seat_untold s (dm_call.QuerySession target) used total = refl
  seat_untold s (dm_call.CreateSession old info) used total = refl
  seat_untold s (dm_call.SetDisp kinds) used total = refl
  seat_untold s dm_call.GetAllTokens used total = refl
  seat_untold s (dm_call.FindEventMsg t room) used total = refl
  seat_untold s (dm_call.GetEvents max room) used total = refl
  seat_untold s (dm_call.Respond t response) used total = refl
  seat_untold s c used total = refl

  space_same : (limits : Numbers) (known : migrate.Known) (c : DmCall) (used total : ℕ) → IsShownAs known (migrate.hears limits known c (dm_reply.Space used total))
  space_same limits known dm_call.GetSpace used total = record { seat = refl; punched = refl }
  space_same limits known dm_call.GetTable used total = record { seat = seat_untold known.seat dm_call.GetTable used total; punched = refl }
  space_same limits known (dm_call.PunchHole t handle offset len) used total = record { seat = seat_untold known.seat (dm_call.PunchHole t handle offset len) used total; punched = refl }
  space_same limits known c used total = record { seat = seat_untold known.seat c used total; punched = refl }

  untold_space : (limits : Numbers) (known : migrate.Known) (asked : Act) (used total : ℕ) → IsShownAs (migrate.knows_by limits known asked heard.Nothing) (migrate.knows_by limits known asked (heard.Dm (dm_reply.Space used total)))
  untold_space limits known (Dm sid c) used total = space_same limits known c used total
  untold_space limits known (Copy volume handle segment bytes) used total = record { seat = refl; punched = refl }
  untold_space limits known (Fetch entry) used total = record { seat = refl; punched = refl }
  untold_space limits known Idle used total = record { seat = refl; punched = refl }

  untold_knows : (limits : Numbers) (known : migrate.Known) (asked : Act) (told : Heard) → IsShownAs (migrate.knows_by limits known asked (untold told)) (migrate.knows_by limits known asked told)
  untold_knows limits known asked (heard.Dm (dm_reply.Space used total)) = untold_space limits known asked used total
  untold_knows limits known asked told = record { seat = refl; punched = refl }

  refreshed_known : (m : Migrating) → IsShownAs (migrate.knows_by m.machine.limits m.machine.known m.machine.asked (told_next m.next)) k → IsShownAs (migrate.knows_by m.machine.limits (fresh m.machine.known) m.machine.asked (untold (told_next m.next))) k
  refreshed_known m known =
      let same = fresh_knows m.machine.limits m.machine.known m.machine.asked (untold (told_next m.next)) in
      let told = untold_knows m.machine.limits m.machine.known m.machine.asked (told_next m.next) in
      record { seat = same.seat ∙ told.seat ∙ known.seat; punched = same.punched ∙ told.punched ∙ known.punched }

  abbrev KnowsAgain : Migrating → Heard → Type 0
  KnowsAgain m told = IsAtStart m.machine.known.seat m.machine.asked told ⊎ IsShownAs (migrate.knows_by m.machine.limits (fresh m.machine.known) m.machine.asked told) k

  knows_again : (m : Migrating) → MigrateKnows k m → KnowsAgain m (untold (told_next m.next))
  knows_again m (inl start) = inl (start.0, start.1, ap untold start.2)
  knows_again m (inr known) = inr (refreshed_known m known)

  migrate_refreshes : (m : Migrating) → MigrateKnows k m → MigrateKnows k (migrate_again m)
  migrate_refreshes m knows = subst (λ (t : Heard). KnowsAgain m t) (sym (told_again m.next)) (knows_again m knows)

  migrate_refreshes_if : (o : Option Migrating) → IfSome o (MigrateKnows k) → IfSome (option_map migrate_again o) (MigrateKnows k)
  migrate_refreshes_if None knows = tt
  migrate_refreshes_if (Some m) knows = migrate_refreshes m knows

begun : {A : Type 0} (P : A → Type 0) (o : Option A) (x : A) → IfSome o P → P x → IfSome (option_or o (Some x)) P
begun P None x has is = is
begun P (Some y) x has is = has

module _ {M : Type 0} (h : drive.Ghosts M) where
  stored_untold : (drives : List M) (asked : Act) (told : Heard) → HearsStored h drives asked told → HearsStored h drives asked (untold told)
  stored_untold drives (Dm sid (dm_call.Seal t handle segment entry)) (heard.Dm (dm_reply.Space used total)) stored = stored
  stored_untold drives asked (heard.Dm (dm_reply.Space used total)) stored = tt
  stored_untold drives asked told stored = stored

  stored_refreshes : (drives : List M) (o : Option Migrating) → IfSome o (λ (m : Migrating). HearsStored h drives m.machine.asked (told_next m.next)) → IfSome (option_map migrate_again o) (λ (m : Migrating). HearsStored h drives m.machine.asked (told_next m.next))
  stored_refreshes drives None stored = tt
  stored_refreshes drives (Some m) stored = subst (λ (t : Heard). HearsStored h drives m.machine.asked t) (sym (told_again m.next)) (stored_untold drives m.machine.asked (told_next m.next) stored)

module _ {D M : Type 0} (h : drive.Ghosts M) where
  shows_started : (opened : List M) (marks : List Mark) (daemon : Daemon) (s : Run D M) → Shows h opened marks s → Shows h opened marks (started daemon s)
  shows_started opened marks Recall s shows = record {
    marked = record { entries = shows.marked.entries; served = shows.marked.served; faults = shows.marked.faults; sealed = shows.marked.sealed };
    recall = recall_starts h (shown s.system.limits nothing_shown marks).recall s.drives (faults_in s.system.store.history) s.system.recall shows.recall;
    migrate = shows.migrate;
    lost = begun (λ (r : Recalling). HearsLost h opened s.drives marks r.machine.asked (told_next r.next)) s.system.recall (record { machine = recaller.started; next = Hears heard.Nothing }) shows.lost tt;
    stored = shows.stored;
  }
  shows_started opened marks Migrate s shows = record {
    marked = record { entries = shows.marked.entries; served = shows.marked.served; faults = shows.marked.faults; sealed = shows.marked.sealed };
    recall = shows.recall;
    migrate = migrate_starts (shown s.system.limits nothing_shown marks).migrate s.system.limits s.system.migrate shows.migrate;
    lost = shows.lost;
    stored = begun (λ (m : Migrating). HearsStored h s.drives m.machine.asked (told_next m.next)) s.system.migrate (record { machine = migrator.started s.system.limits; next = Hears heard.Nothing }) shows.stored tt;
  }

  shows_killed : (opened : List M) (marks : List Mark) (daemon : Daemon) (s : Run D M) → Shows h opened marks s → Shows h opened marks (killed daemon s)
  shows_killed opened marks Recall s shows = record {
    marked = record { entries = shows.marked.entries; served = shows.marked.served; faults = shows.marked.faults; sealed = shows.marked.sealed };
    recall = tt;
    migrate = shows.migrate;
    lost = tt;
    stored = shows.stored;
  }
  shows_killed opened marks Migrate s shows = record {
    marked = record { entries = shows.marked.entries; served = shows.marked.served; faults = shows.marked.faults; sealed = shows.marked.sealed };
    recall = shows.recall;
    migrate = tt;
    lost = shows.lost;
    stored = tt;
  }

  shows_refreshed : (opened : List M) (marks : List Mark) (s : Run D M) → Shows h opened marks s → Shows h opened marks (refreshed s)
  shows_refreshed opened marks s shows = record {
    marked = record { entries = shows.marked.entries; served = shows.marked.served; faults = shows.marked.faults; sealed = shows.marked.sealed };
    recall = shows.recall;
    migrate = migrate_refreshes_if (shown s.system.limits nothing_shown marks).migrate s.system.migrate shows.migrate;
    lost = shows.lost;
    stored = stored_refreshes h s.drives s.system.migrate shows.stored;
  }

  -- ---- no events

  still : (opened : List M) (marks : List Mark) (s : Run D M) → Shows h opened marks s → Shows h opened (marks ++ []) s
  still opened marks s shows = subst (λ (ms : List Mark). Shows h opened ms s) (sym (append-nil marks)) shows

  pub starts_grow : (daemon : Daemon) (s : Run D M) → GrowsBy h (Starts daemon ∷ []) s (started daemon s)
  starts_grow daemon s opened marks shows = still opened marks (started daemon s) (shows_started opened marks daemon s shows)

  pub kills_grow : (daemon : Daemon) (s : Run D M) → GrowsBy h (Kills daemon ∷ []) s (killed daemon s)
  kills_grow daemon s opened marks shows = still opened marks (killed daemon s) (shows_killed opened marks daemon s shows)

  pub refresh_grows : (s : Run D M) → GrowsBy h (Refreshes ∷ []) s (refreshed s)
  refresh_grows s opened marks shows = still opened marks (refreshed s) (shows_refreshed opened marks s shows)

-- the store is as it was
pub starts_run : {D M : Type 0} (g : disk.Ghosts D) (daemon : Daemon) (s : Run D M) → Runs g {T = Unit {0}} (Ok tt) s.system.store (started daemon s).system.store
starts_run g Recall s = runs_itself g tt s.system.store
starts_run g Migrate s = runs_itself g tt s.system.store

pub kills_run : {D M : Type 0} (g : disk.Ghosts D) (daemon : Daemon) (s : Run D M) → Runs g {T = Unit {0}} (Ok tt) s.system.store (killed daemon s).system.store
kills_run g Recall s = runs_itself g tt s.system.store
kills_run g Migrate s = runs_itself g tt s.system.store
