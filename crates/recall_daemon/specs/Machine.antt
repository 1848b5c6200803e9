-- The recall machine as contracts see it: what it knows, and the act whose answer it waits for.
use Rattle.std.specs.Prelude.{◌≡◌}
use Rattle.hsm_types.specs.declared.daemons.Act.{Act}
use Rattle.hsm_types.specs.declared.daemons.Act.TheVariants.{Dm, Idle}
use Rattle.hsm_types.specs.declared.daemons.Heard.{Heard}
use Rattle.hsm_types.specs.declared.dm.DmCall.TheVariants.{GetAllSessions}
use Rattle.daemon_session.specs.Seats.{first_id, Refuses}
use Rattle.recall_daemon.specs.Known.{Known, nothing_known, knows_by, asks_by, MayGive}

pub record Machine : Type 0 where
  pub known : Known
  pub asked : Act

abbrev pub started : Machine
started = record { known = nothing_known; asked = Idle }

-- It has heard the answer to what it asked, and gives an act that it may give. Where a call is refused for its session it begins as at its start.
pub record StepsOn (old : Machine) (told : Heard) (act : Act) (new : Machine) : Type 0 where
  pub known : new.known ≡ asks_by (knows_by old.known old.asked told) act
  pub asked : new.asked ≡ act
  pub may : MayGive (knows_by old.known old.asked told) old.asked told act
  pub begins : Refuses old.asked told → act ≡ Dm first_id GetAllSessions
