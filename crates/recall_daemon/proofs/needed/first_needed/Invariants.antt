use Rattle.recall_daemon.proofs.Meeting.{NoneTo}
use Rattle.recall_daemon.proofs.needed.first_needed.Given as goal

abbrev pub invariant-loop-one : goal.invariant-loop-one
invariant-loop-one l = NoneTo l.one-index l.event l.size l.away
