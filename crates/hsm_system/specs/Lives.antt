-- How each daemon of a system lives: by the steps of its own machine.
use Rattle.std.specs.Prelude.{refl}
use Rattle.hsm_policy.specs.Settings.{Numbers}
use Rattle.recall_daemon.specs.Machine as recall
use Rattle.migrate_daemon.specs.Machine as migrate
use Rattle.deeds.specs.Lives.{Workings, Living, hearing}
use Rattle.hsm_system.specs.Awaiting.{heard_next}
use Rattle.hsm_system.specs.declared.daemons.Running.{Running}

-- a pass is no matter of recall
abbrev pub recalls : Workings recall.Machine
recalls = record {
  first = recall.started;
  again = λ (m : recall.Machine). m;
  asked = λ (m : recall.Machine). m.asked;
  StepsOn = recall.StepsOn;
  rests = refl;
  still = λ m. refl;
  gives = λ old told act new goes. goes.asked;
}

abbrev pub migrates : Numbers → Workings migrate.Machine
migrates limits = record {
  first = migrate.started limits;
  again = migrate.freshened;
  asked = λ (m : migrate.Machine). m.asked;
  StepsOn = migrate.StepsOn;
  rests = refl;
  still = λ m. refl;
  gives = λ old told act new goes. goes.asked;
}

-- the machine, and what it hears next
abbrev pub living_of : {M : Type 0} → Running M → Living M
living_of r = hearing r.machine (heard_next r.next)
