use Rattle.hsm_replay.specs.ReadyCallers.{MayGoOn}
use Rattle.hsm_replay.proofs.PartsDone as law
use Rattle.hsm_replay.proofs.laws.follows_so.Goals as goal

pub returns : goal.returns
returns g c quiet s lines deeds = law.follows_so quiet (MayGoOn s) lines deeds
