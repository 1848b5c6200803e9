use Rattle.reconcile.proofs.Drives.{none_read}
use Rattle.reconcile.proofs.walking.Walk.find.Goals as goal

pub returns-clause-reads : goal.returns-clause-reads
returns-clause-reads g c = none_read g.M.Drive c.args.drives.now
