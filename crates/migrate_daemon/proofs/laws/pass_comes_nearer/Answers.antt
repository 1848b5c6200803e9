use Rattle.migrate_daemon.proofs.Nearing as law
use Rattle.migrate_daemon.proofs.laws.pass_comes_nearer.Goals as goal

pub returns : goal.returns
returns c = law.pass_comes_nearer
