use Rattle.daemon_session.specs.Members.{IsOnWay}
use Rattle.daemon_tests.proofs.entering.follow.Given as goal

abbrev pub invariant-loop-told : goal.invariant-loop-told
invariant-loop-told l = IsOnWay l.member.asked
