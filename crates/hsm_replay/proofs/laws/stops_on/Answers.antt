use Rattle.hsm_replay.specs.ReadyCallers.{MayGoOn}
use Rattle.hsm_replay.proofs.PartsOn as law
use Rattle.hsm_replay.proofs.laws.stops_on.Goals as goal

pub returns : goal.returns
returns g c quiet s given lines more = law.stops_on quiet (MayGoOn s) given lines more
