use Rattle.hsm_types.specs.declared.daemons.Act.TheVariants.{Idle}
use Rattle.recall_daemon.proofs.Entries.{rests_on, idle_no_events}
use Rattle.recall_daemon.proofs.worker.Worker.hear.Goals as goal

pub returns-in-Resting-clause-ok : goal.returns-in-Resting-clause-ok
returns-in-Resting-clause-ok c = rests_on _ _ _ _ _ c.requires.worker c.in-Resting.is (c.turn.ensures Idle c.args.last.now (idle_no_events _))
