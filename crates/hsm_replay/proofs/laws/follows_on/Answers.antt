use Rattle.hsm_replay.specs.ReadyCallers.{MayGoOn}
use Rattle.hsm_replay.proofs.PartsDone as law
use Rattle.hsm_replay.proofs.laws.follows_on.Goals as goal

pub returns : goal.returns
returns g c quiet s given lines more = law.follows_on quiet (MayGoOn s) given lines more
