use Rattle.migrate_daemon.proofs.OnTheWay.{turns_lost, turns_lost_pass}
use Rattle.migrate_daemon.proofs.entering.lose.Goals as goal

pub returns-in-Working : goal.returns-in-Working
returns-in-Working c = λ asked told lost stands.
    rw (c.enter.ensures.turn, c.enter.ensures.new, c.end.ensures) (turns_lost_pass c.args.knowledge.now c.args.pass.now asked told c.in-Working.pick c.in-Working.work (rw c.in-Working.is at stands) (rw c.in-Working.is at lost))

pub returns-in_default : goal.returns-in_default
returns-in_default c = λ asked told lost stands.
    rw (c.enter-in_default.ensures.turn, c.enter-in_default.ensures.new) (turns_lost c.args.stage c.args.knowledge.now c.args.pass.now asked told c.in_default.not-Working stands lost)
