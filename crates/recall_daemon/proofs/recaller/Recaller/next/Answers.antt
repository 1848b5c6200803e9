use Rattle.recall_daemon.proofs.Shown.{shows}
use Rattle.recall_daemon.proofs.recaller.Recaller.next.Goals as goal

pub returns-clause-ok : goal.returns-clause-ok
returns-clause-ok c = rw (← c.self.view_is) (shows _ c.self.inside.worker c.args.last c.next.new.self c.next.ensures.ok c.next.ensures.begins)
