-- A store with its two daemons.
use Rattle.std.specs.Prelude.{◌≡◌, Option, None, Some, IfSome}
use Rattle.std.specs.Option.{option_map, option_or}
use Rattle.hsm_types.specs.declared.daemons.Act.{Act}
use Rattle.hsm_types.specs.declared.daemons.Act.TheVariants.{Idle}
use Rattle.hsm_types.specs.declared.daemons.Daemon.{Daemon}
use Rattle.hsm_types.specs.declared.daemons.Daemon.TheVariants.{Recall, Migrate}
use Rattle.hsm_types.specs.declared.daemons.Heard.{Heard}
use Rattle.hsm_core.specs.Store.{Store}
use Rattle.hsm_policy.specs.Settings.{Numbers}
use Rattle.recall_daemon.specs.Machine as recall
use Rattle.migrate_daemon.specs.Machine as migrate
use Rattle.hsm_system.specs.Asking.{AsksNoValue, RecallAsks, MigrateAsks}
use Rattle.hsm_system.specs.Awaiting.{awaited_by}
use Rattle.hsm_system.specs.Running.{Recalling, Migrating, IsSound, WaitsNow, AwaitsNow, AwaitsSuch, first_of, hears_next, untold_next}
use Rattle.hsm_system.specs.declared.awaited.Outcome.{Outcome}

pub record System (D : Type 0) : Type 0 where
  pub store : Store D
  -- the settings of the run
  pub limits : Numbers
  -- each daemon where it runs, with what it hears next, or waits for
  pub recall : Option Recalling
  pub migrate : Option Migrating

-- Recall may hear anything. Migration counts by the settings of the run, and asks for no value.
abbrev pub IsSoundRecall : Recalling → Type 0
IsSoundRecall = IsSound (λ (m : recall.Machine). m.asked) (λ told. Unit {0}) RecallAsks

abbrev pub IsSoundMigrate : Numbers → Migrating → Type 0
IsSoundMigrate limits = IsSound (λ (m : migrate.Machine). m.asked) migrate.IsWithin (λ (m : migrate.Machine). MigrateAsks limits m × AsksNoValue m.asked)

pub record IsSystem {D : Type 0} (s : System D) : Type 0 where
  pub recall : IfSome s.recall IsSoundRecall
  pub migrate : IfSome s.migrate (IsSoundMigrate s.limits)

-- ---- a daemon of it

abbrev pub IsDown : {D : Type 0} → Daemon → System D → Type 0
IsDown Recall s = s.recall ≡ None
IsDown Migrate s = s.migrate ≡ None

-- it runs, and waits for what comes of the act that it gave last
abbrev pub Waits : {D : Type 0} → Daemon → System D → Type 0
Waits Recall s = WaitsNow s.recall
Waits Migrate s = WaitsNow s.migrate

-- which is that one
abbrev pub Awaits : {D : Type 0} → Daemon → Act → System D → Type 0
Awaits Recall act s = AwaitsNow (λ (m : recall.Machine). m.asked) act s.recall
Awaits Migrate act s = AwaitsNow (λ (m : migrate.Machine). m.asked) act s.migrate

-- it runs, and waits for an outcome like that
abbrev pub IsAwaited : {D : Type 0} → Daemon → Outcome → System D → Type 0
IsAwaited Recall outcome s = AwaitsSuch (awaited_by outcome) s.recall
IsAwaited Migrate outcome s = AwaitsSuch (awaited_by outcome) s.migrate

-- it gave the act to rest last, or was just started, or doesn't run
abbrev pub Rests : {D : Type 0} → Daemon → System D → Type 0
Rests Recall s = IfSome s.recall (λ (r : Recalling). r.machine.asked ≡ Idle)
Rests Migrate s = IfSome s.migrate (λ (m : Migrating). m.machine.asked ≡ Idle)

-- ---- what calls do

abbrev pub recall_first : Recalling
recall_first = first_of recall.started

abbrev pub migrate_first : Numbers → Migrating
migrate_first limits = first_of (migrate.started limits)

-- the daemon runs. Where it ran before it goes on
abbrev pub started : {D : Type 0} → Daemon → System D → System D
started Recall s = record s { recall = option_or s.recall (Some recall_first) }
started Migrate s = record s { migrate = option_or s.migrate (Some (migrate_first s.limits)) }

-- it doesn't run
abbrev pub killed : {D : Type 0} → Daemon → System D → System D
killed Recall s = record s { recall = None }
killed Migrate s = record s { migrate = None }

-- migration may begin one pass by `high`, by what it is told of the space from here on
abbrev pub migrate_again : Migrating → Migrating
migrate_again m = record { machine = migrate.freshened m.machine; next = untold_next m.next }

abbrev pub refreshed : {D : Type 0} → System D → System D
refreshed s = record s { migrate = option_map migrate_again s.migrate }

-- the daemon, where it runs, hears this next
abbrev pub hearing : {D : Type 0} → Daemon → Heard → System D → System D
hearing Recall told s = record s { recall = option_map (hears_next told) s.recall }
hearing Migrate told s = record s { migrate = option_map (hears_next told) s.migrate }
