use Rattle.std.proofs.Common.{◌∙◌, ap}
use Rattle.hsm_system.specs.declared.daemons.Next.TheVariants.{Waits}
use Rattle.hsm_system.proofs.DaemonActs.{none_given, act_given}
use Rattle.hsm_system.proofs.daemons.ask.Goals as goal

pub returns-in_default-take-clause-asked : goal.returns-in_default-take-clause-asked
returns-in_default-take-clause-asked g c = none_given g.M.Machine.goes_on c.args.daemon.now c.in-Some.running c.in-Some.is c.take.new.self c.in_default-take.ensures.waits

pub returns-clause-asked : goal.returns-clause-asked
returns-clause-asked g c = act_given g.M.Machine.goes_on c.args.daemon.now c.in-Some.running c.in-Some.is c.set.new.place c.in-Some-take.told c.in_ok-act.act c.go_on.new.self c.in-Some-take.ensures.waits.0 c.in_ok-act.ensures.ok (c.set.ensures ∙ ap Waits c.of.ensures)
