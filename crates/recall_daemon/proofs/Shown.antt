-- What the machine shows of its parts' step.
use Rattle.std.proofs.Common.{◌≡◌, Ok, Err, Result}
use Rattle.std.specs.Prelude.{IfOk}
use Rattle.hsm_types.specs.declared.daemons.Act.{Act}
use Rattle.hsm_types.specs.declared.daemons.Act.TheVariants.{Dm}
use Rattle.hsm_types.specs.declared.daemons.Heard.{Heard}
use Rattle.hsm_types.specs.declared.dm.DmCall.TheVariants.{GetAllSessions}
use Rattle.daemon_session.specs.Seats.{first_id, Refuses}
use Rattle.recall_daemon.specs.Machine.{StepsOn}
use Rattle.recall_daemon.specs.Workers.{machine_of, Works}
use Rattle.recall_daemon.specs.declared.worker.Worker.{Worker}

pub shows : {E : Type 0} (r : Result Act E) (old : Worker) (told : Heard) (new : Worker) → IfOk r (λ act. Works old told act new)
    → (Refuses old.asked.value told → IfOk r (λ act. act ≡ Dm first_id GetAllSessions)) → IfOk r (λ act. StepsOn (machine_of old) told act (machine_of new))
shows (Ok act) old told new works begins = record { known = works.known; asked = works.asks; may = works.may; begins = begins }
shows (Err why) old told new works begins = tt
