use Rattle.hsm_system.specs.Awaiting.{IsWaiting}
use Rattle.hsm_system.proofs.Waiting.{at_one}
use Rattle.hsm_system.proofs.daemons.waits.Goals as goal

pub returns-in-Some : goal.returns-in-Some
returns-in-Some g c = at_one IsWaiting c.args.daemon.now c.in-Some.running c.in-Some.is c.waits.ensures
