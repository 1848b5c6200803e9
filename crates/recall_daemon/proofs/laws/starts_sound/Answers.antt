use Rattle.recall_daemon.proofs.Sound as law
use Rattle.recall_daemon.proofs.laws.starts_sound.Goals as goal

pub returns : goal.returns
returns c = law.starts_sound
