use Rattle.std.proofs.Common.{length}
use Rattle.event_msgs.proofs.Walks.{Passed}
use Rattle.event_msgs.proofs.unpacking.views.Given as goal

abbrev pub invariant-loop-after : goal.invariant-loop-after
invariant-loop-after l = Passed l.buf l.rest

abbrev pub decreases-loop-after : goal.decreases-loop-after
decreases-loop-after l = length l.rest
