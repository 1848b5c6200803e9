use Rattle.recall_daemon.proofs.Chosen.{ChosenTo}
use Rattle.recall_daemon.proofs.choosing.first_event.Given as goal

abbrev pub invariant-loop-one : goal.invariant-loop-one
invariant-loop-one l = ChosenTo l.one-index l.kept l.first
