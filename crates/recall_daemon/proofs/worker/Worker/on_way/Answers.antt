use Rattle.recall_daemon.proofs.Entries.{goes, seats, entry_no_events}
use Rattle.recall_daemon.proofs.worker.Worker.on_way.Goals as goal

pub returns-in-Asks-clause-ok : goal.returns-in-Asks-clause-ok
returns-in-Asks-clause-ok c =
    rw c.wait.ensures.act (goes _ _ _ _ c.requires.worker c.requires.serving (rw (c.in-Asks.is, ← c.wait.ensures.member) at c.in_ok-act.ensures.ok) c.wait.ensures.serving c.wait.ensures.asked)

pub returns-in-Seated-clause-ok : goal.returns-in-Seated-clause-ok
returns-in-Seated-clause-ok c =
    let w = rw c.requires.serving at c.requires.worker.waits in
    seats _ _ _ _ _ _ c.requires.worker c.requires.serving (rw c.in-Seated.is at c.in_ok-act.ensures.ok) (c.turn.ensures _ _ (entry_no_events _ _ _ w.0))
