use Rattle.migrate_daemon.proofs.OnTheWay.{turns_asks, turns_seated, turns_refused}
use Rattle.migrate_daemon.proofs.entering.on_way.Goals as goal

pub returns-in-Asks-clause-ok : goal.returns-in-Asks-clause-ok
returns-in-Asks-clause-ok c = λ pass entering. turns_asks c.args.knowledge.now pass c.args.told _ c.in-Asks.act entering c.requires.lives c.in_ok-act.ensures.stays (rw c.in-Asks.is at c.in_ok-act.ensures.enters)

pub returns-in-Seated-clause-ok : goal.returns-in-Seated-clause-ok
returns-in-Seated-clause-ok c = λ pass entering. turns_seated c.args.knowledge.now pass c.args.told _ c.in-Seated.sid _ entering c.requires.lives c.in_ok-act.ensures.stays (rw c.in-Seated.is at c.in_ok-act.ensures.enters) (c.round.ensures pass pass c.args.knowledge.now.way c.args.told)

pub returns-in-Refused-clause-ok : goal.returns-in-Refused-clause-ok
returns-in-Refused-clause-ok c = λ pass entering. turns_refused c.args.knowledge.now pass c.args.told _ entering c.requires.lives c.in_ok-act.ensures.stays (rw c.in-Refused.is at c.in_ok-act.ensures.enters)
