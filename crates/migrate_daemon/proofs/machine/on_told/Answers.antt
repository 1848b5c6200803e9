use Rattle.hsm_types.specs.declared.daemons.Act.TheVariants.{Idle}
use Rattle.migrate_daemon.proofs.OnTheWay.{turns_outside, turns_resting}
use Rattle.migrate_daemon.proofs.machine.on_told.Goals as goal

pub returns-in-Outside-clause-ok : goal.returns-in-Outside-clause-ok
returns-in-Outside-clause-ok c = λ asked stands. rw (c.enter.ensures.turn, c.enter.ensures.new) (turns_outside c.args.knowledge.now c.args.pass.now asked c.args.last.now (rw c.in-Outside.is at stands))

pub returns-in-Resting-clause-ok : goal.returns-in-Resting-clause-ok
returns-in-Resting-clause-ok c = λ asked stands. turns_resting c.args.knowledge.now c.args.pass.now asked c.args.last.now c.in-Resting.sid _ (rw c.in-Resting.is at stands) (c.round.ensures c.args.pass.now c.args.pass.now Idle c.args.last.now)

pub returns-in-Copying-clause-ok : goal.returns-in-Copying-clause-ok
returns-in-Copying-clause-ok c = λ asked stands.
    let here = rw c.in-Copying.is at stands in
    rw here.0.1 (c.on_copied.ensures here.0.0)

pub returns-in-Answering-clause-ok : goal.returns-in-Answering-clause-ok
returns-in-Answering-clause-ok c = λ asked stands.
    let here = rw c.in-Answering.is at stands in
    rw here.0.1 (c.on_answer.ensures c.args.pass.now here.0.0 here.1 here.2)
