-- What stays so of a daemon, whatever is done with it.
use Rattle.std.proofs.Common.{◌≡◌, Option, Some, None, Result, Ok, Err, option_map, refl, sym, ap, subst}
use Rattle.std.specs.Prelude.{IfOk, IfErr, IfSome}
use Rattle.hsm_types.specs.declared.daemons.Act.{Act}
use Rattle.hsm_types.specs.declared.daemons.Heard.{Heard}
use Rattle.hsm_types.specs.declared.daemons.Heard.TheVariants as heard
use Rattle.hsm_types.specs.declared.daemons.Heard.TheVariants.{Nothing}
use Rattle.hsm_types.specs.declared.dm.DmReply.TheVariants.{Space}
use Rattle.hsm_policy.specs.Settings.{Numbers}
use Rattle.recall_daemon.specs.Machine as recall
use Rattle.migrate_daemon.specs.Machine as migrate
use Rattle.deeds.specs.Lives.{untold}
use Rattle.hsm_system.specs.Asking.{AsksNoValue, MigrateAsks, RecallIsRight, MigrateIsRight}
use Rattle.hsm_system.specs.Awaiting.{WaitsFor, awaited_of}
use Rattle.hsm_system.specs.Running.{Recalling, Migrating, IsSound, Gives, Loses, MayHear, hears_next, untold_next}
use Rattle.hsm_system.specs.Systems.{IsSoundRecall, IsSoundMigrate, migrate_again}
use Rattle.hsm_system.specs.declared.daemons.Next.{Next}
use Rattle.hsm_system.specs.declared.daemons.Next.TheVariants.{Hears, Waits}
use Rattle.hsm_system.specs.declared.daemons.Running.{Running}
use Rattle.hsm_system.specs.declared.stops.Stop.{Stop}
use Rattle.hsm_system.proofs.Asked.{recall_asks_on, migrate_asks_on}
use Rattle.hsm_system.proofs.Within.{asks_none}

module _ {M : Type 0} (asked : M → Act) (may_hear : Heard → Type 0) (Knows : M → Type 0) where
  abbrev Sound : Option (Running M) → Type 0
  Sound daemon = IfSome daemon (IsSound asked may_hear Knows)

  hears_sound : (told : Heard) → may_hear told → (o : Option (Running M)) → Sound o → Sound (option_map (hears_next told) o)
  hears_sound told may None sound = tt
  hears_sound told may (Some r) sound = record { waits = tt; within = may; knows = sound.knows }

  pub heard_within : (o : Option (Running M)) → Sound o → IfSome o (λ (r : Running M). MayHear may_hear r.next)
  heard_within None sound = tt
  heard_within (Some r) sound = sound.within

  -- where it gives an act, by what it knows behind a step
  module _ (StepsOn : M → Heard → Act → M → Type 0) (gives : (old : M) (told : Heard) (act : Act) (new : M) → StepsOn old told act new → asked new ≡ act) (knows_on : (old : M) (told : Heard) (act : Act) (new : M) → StepsOn old told act new → Knows old → Knows new) where
    asks_sound : (old new : Option (Running M)) (result : Result (Option Act) Stop) → may_hear Nothing
        → IfOk result (λ given. Gives StepsOn old given new) → IfErr result (λ why. Loses old why new) → Sound old → Sound new
    asks_sound old new (Ok None) may is lacks sound = subst Sound (sym is.1) sound
    asks_sound old new (Ok (Some act)) may is lacks sound =
        let before : IsSound asked may_hear Knows is.0 = subst Sound is.3 sound in
        subst Sound (sym is.6) (record { waits = ap awaited_of (sym (gives is.0.machine is.2 act is.1 is.5)); within = tt; knows = knows_on is.0.machine is.2 act is.1 is.5 before.knows })
    asks_sound old new (Err why) may is lacks sound = subst Sound (sym lacks.loses) (hears_sound Nothing may old sound)

-- ---- recall

pub recall_right : (o : Option Recalling) → IfSome o IsSoundRecall → RecallIsRight o
recall_right None sound = tt
recall_right (Some r) sound = sound.knows

pub recall_hears : (told : Heard) (o : Option Recalling) → IfSome o IsSoundRecall → IfSome (option_map (hears_next told) o) IsSoundRecall
recall_hears told = hears_sound _ _ _ told tt

pub recall_asks : (old new : Option Recalling) (result : Result (Option Act) Stop)
    → IfOk result (λ given. Gives recall.StepsOn old given new) → IfErr result (λ why. Loses old why new) → IfSome old IsSoundRecall → IfSome new IsSoundRecall
recall_asks old new result = asks_sound _ _ _ recall.StepsOn (λ m told act n goes. goes.asked) (λ m told act n goes knows. recall_asks_on m told knows act n goes) old new result tt

-- ---- migration

-- it hears of the space no more
untold_waits : (next : Next) (asked : Act) → WaitsFor next asked → WaitsFor (untold_next next) asked
untold_waits (Hears told) asked waits = tt
untold_waits (Waits awaited) asked waits = waits

untold_told : (told : Heard) → migrate.IsWithin told → migrate.IsWithin (untold told)
untold_told (heard.Dm (Space used total)) may = tt
untold_told told may = may

untold_within : (next : Next) → MayHear migrate.IsWithin next → MayHear migrate.IsWithin (untold_next next)
untold_within (Hears told) may = untold_told told may
untold_within (Waits awaited) may = tt

module _ (limits : Numbers) where
  abbrev pub Knows : migrate.Machine → Type 0
  Knows m = MigrateAsks limits m × AsksNoValue m.asked

  pub migrate_right : (o : Option Migrating) → IfSome o (IsSoundMigrate limits) → MigrateIsRight limits o
  migrate_right None sound = tt
  migrate_right (Some m) sound = sound.knows.0

  pub migrate_hears : (told : Heard) → migrate.IsWithin told → (o : Option Migrating) → IfSome o (IsSoundMigrate limits) → IfSome (option_map (hears_next told) o) (IsSoundMigrate limits)
  migrate_hears told may = hears_sound _ _ _ told may

  knows_on : (old : migrate.Machine) (told : Heard) (act : Act) (new : migrate.Machine) → migrate.StepsOn old told act new → Knows old → Knows new
  knows_on old told act new goes knows = (migrate_asks_on old told limits act new knows.0 goes, subst AsksNoValue (sym goes.asked) (asks_none old.limits _ old.pass new.pass old.asked told act goes.may))

  pub migrate_asks : (old new : Option Migrating) (result : Result (Option Act) Stop)
      → IfOk result (λ given. Gives migrate.StepsOn old given new) → IfErr result (λ why. Loses old why new) → IfSome old (IsSoundMigrate limits) → IfSome new (IsSoundMigrate limits)
  migrate_asks old new result = asks_sound _ _ _ migrate.StepsOn (λ m told act n goes. goes.asked) knows_on old new result tt

  pub migrate_renews : (o : Option Migrating) → IfSome o (IsSoundMigrate limits) → IfSome (option_map migrate_again o) (IsSoundMigrate limits)
  migrate_renews None sound = tt
  migrate_renews (Some m) sound = record {
    waits = untold_waits m.next m.machine.asked sound.waits;
    within = untold_within m.next sound.within;
    knows = (record { counts = sound.knows.0.counts; seat = sound.knows.0.seat; space = λ rests. refl }, sound.knows.1);
  }
