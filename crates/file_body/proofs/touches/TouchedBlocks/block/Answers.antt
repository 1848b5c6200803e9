use Rattle.std.proofs.Common.{arith}
use Rattle.file_body.proofs.Runs.{at_run, at_run_behind}
use Rattle.file_body.proofs.touches.TouchedBlocks.block.Goals as goal

pub overflow_add-result : goal.overflow_add-result
overflow_add-result c = omega (arith, (at_run_behind c.self.inside.old_end _ c.self.inside.first c.self.inside.count c.args.place c.args.self.now c.self.view_is c.in-Some-2.is c.if-place-eq0.false c.requires).0)

pub overflow_add-result-in-None : goal.overflow_add-result-in-None
overflow_add-result-in-None c = omega (arith, (at_run c.self.inside.old_end c.self.inside.first c.self.inside.count c.args.place c.args.self.now c.self.view_is c.in-None.is c.requires).0)

pub returns-in-Some-2-clause-block : goal.returns-in-Some-2-clause-block
returns-in-Some-2-clause-block c = (at_run_behind c.self.inside.old_end _ c.self.inside.first c.self.inside.count c.args.place c.args.self.now c.self.view_is c.in-Some-2.is c.if-place-eq0.false c.requires).1

pub returns-in-Some-2-clause-small : goal.returns-in-Some-2-clause-small
returns-in-Some-2-clause-small c = omega (arith, (at_run_behind c.self.inside.old_end _ c.self.inside.first c.self.inside.count c.args.place c.args.self.now c.self.view_is c.in-Some-2.is c.if-place-eq0.false c.requires).0)

pub returns-in-None-clause-block : goal.returns-in-None-clause-block
returns-in-None-clause-block c = (at_run c.self.inside.old_end c.self.inside.first c.self.inside.count c.args.place c.args.self.now c.self.view_is c.in-None.is c.requires).1

pub returns-in-None-clause-small : goal.returns-in-None-clause-small
returns-in-None-clause-small c = omega (arith, (at_run c.self.inside.old_end c.self.inside.first c.self.inside.count c.args.place c.args.self.now c.self.view_is c.in-None.is c.requires).0)
