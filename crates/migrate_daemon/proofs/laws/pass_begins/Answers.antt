use Rattle.migrate_daemon.proofs.Nearing as law
use Rattle.migrate_daemon.proofs.laws.pass_begins.Goals as goal

pub returns : goal.returns
returns c = law.pass_begins
