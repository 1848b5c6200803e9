-- Which daemons run.
use Rattle.std.proofs.Common.{◌≡◌, ◌∙◌, Bool, true, Option, None, Some, is_some, Result, Ok, Err, OnOk, IfErr, inl, inr, refl, sym, ap}
use Rattle.std.specs.Option.{option_map, option_or}
use Rattle.disk_model.specs.declared.device.Disk as disk
use Rattle.media_model.specs.declared.drive.Drive as drive
use Rattle.hsm_types.specs.declared.daemons.Act.{Act}
use Rattle.hsm_types.specs.declared.daemons.Act.TheVariants.{Dm, Copy, Fetch, Idle}
use Rattle.hsm_types.specs.declared.daemons.Daemon.{Daemon}
use Rattle.hsm_types.specs.declared.daemons.Daemon.TheVariants.{Recall, Migrate}
use Rattle.hsm_types.specs.declared.daemons.Heard.{Heard}
use Rattle.hsm_types.specs.declared.daemons.Heard.TheVariants.{Nothing}
use Rattle.script_text.specs.declared.lines.Line.TheVariants.{Start, Kill}
use Rattle.hsm_system.specs.Acts.{MovesOn}
use Rattle.hsm_system.specs.Systems.{System, hearing}
use Rattle.hsm_system.specs.Running.{Recalling, Migrating}
use Rattle.hsm_system.specs.declared.stops.Stop.{Stop}
use Rattle.marked_history.specs.Settling.{running_by}
use Rattle.marked_history.specs.Waiting.{Running}
use Rattle.hsm_replay.specs.Acts.{Stops}
use Rattle.hsm_replay.specs.Steps.{Steps, Halts}
use Rattle.hsm_replay.specs.Systems.{Run, running, started, killed, refreshed}
use Rattle.hsm_replay.proofs.Turning.{step_goes}

some_started : {X : Type 0} (o : Option X) (x : X) → is_some (option_or o (Some x)) ≡ true
some_started None x = refl
some_started (Some y) x = refl

some_mapped : {X Y : Type 0} (f : X → Y) (o : Option X) → is_some (option_map f o) ≡ is_some o
some_mapped f None = refl
some_mapped f (Some x) = refl

module _ {D M : Type 0} where
  pub started_runs : (daemon : Daemon) (s : Run D M) → running (started daemon s) ≡ running_by (Start daemon) (running s)
  started_runs Recall s = ap (λ (b : Bool). record (running s) { recall = b }) (some_started s.system.recall _)
  started_runs Migrate s = ap (λ (b : Bool). record (running s) { migrate = b }) (some_started s.system.migrate _)

  pub killed_runs : (daemon : Daemon) (s : Run D M) → running (killed daemon s) ≡ running_by (Kill daemon) (running s)
  killed_runs Recall s = refl
  killed_runs Migrate s = refl

  pub refreshed_runs : (s : Run D M) → running (refreshed s) ≡ running s
  refreshed_runs s = ap (λ (b : Bool). record (running s) { migrate = b }) (some_mapped _ s.system.migrate)

  -- ---- an event

  -- it leaves the daemons alone
  pub event_runs : (old new : Run D M) → new ≡ record old { system = record old.system { store = new.system.store } } → running new ≡ running old
  event_runs old new is = ap running is

-- ---- a step

module _ {D : Type 0} where
  abbrev runs_of : System D → Running
  runs_of s = record { recall = is_some s.recall; migrate = is_some s.migrate }

  hearing_runs : (daemon : Daemon) (told : Heard) (s : System D) → runs_of (hearing daemon told s) ≡ runs_of s
  hearing_runs Recall told s = ap (λ (b : Bool). record (runs_of s) { recall = b }) (some_mapped _ s.recall)
  hearing_runs Migrate told s = ap (λ (b : Bool). record (runs_of s) { migrate = b }) (some_mapped _ s.migrate)

  -- one whose machine has moved on runs on
  moved_runs : (daemon : Daemon) (old : System D) (act : Act) (new : System D) → MovesOn daemon old act new → runs_of new ≡ runs_of old
  moved_runs Recall old act new moves = ap runs_of moves.6 ∙ ap (λ (o : Option Recalling). record (runs_of old) { recall = is_some o }) (sym moves.3)
  moved_runs Migrate old act new moves = ap runs_of moves.6 ∙ ap (λ (o : Option Migrating). record (runs_of old) { migrate = is_some o }) (sym moves.3)

module _ {D M : Type 0} (g : disk.Ghosts D) (h : drive.Ghosts M) where
  stops_runs : (daemon : Daemon) (old : Run D M) (act : Act) (why : Stop) (new : Run D M) → Stops g h daemon old act why new → running new ≡ running old
  stops_runs daemon old (Dm sid call) why new stops = ap runs_of stops.0.2 ∙ hearing_runs daemon Nothing stops.0.0 ∙ ap runs_of stops.0.1.made.rest
  stops_runs daemon old (Copy volume handle segment bytes) why new stops = ap runs_of stops.1 ∙ hearing_runs daemon Nothing old.system
  stops_runs daemon old (Fetch entry) why new stops = ap runs_of stops.1 ∙ hearing_runs daemon Nothing old.system
  stops_runs daemon old Idle why new stops = absurd stops

  halts_runs : (daemon : Daemon) (old : Run D M) (why : Stop) (new : Run D M) → Halts g h daemon old why new → running new ≡ running old
  halts_runs daemon old why new (inl lacks) = ap runs_of lacks.0.loses ∙ hearing_runs daemon Nothing old.system
  halts_runs daemon old why new (inr stopped) =
      stops_runs daemon (record old { system = stopped.moved }) stopped.act why new stopped.stops ∙ moved_runs daemon old.system stopped.act stopped.moved stopped.moves

  pub step_runs : (daemon : Daemon) (result : Result (Unit {0}) Stop) (old new : Run D M) → OnOk result (Steps g h daemon old new) → IfErr result (λ why. Halts g h daemon old why new) → running new ≡ running old
  step_runs daemon (Ok done) old new steps halts = (step_goes g h daemon old new steps).runs
  step_runs daemon (Err why) old new steps halts = halts_runs daemon old why new halts
