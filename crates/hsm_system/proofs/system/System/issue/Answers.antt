use Rattle.plain_model.specs.declared.entries.Action.TheVariants as action
use Rattle.plain_model.specs.declared.entries.Actor.TheVariants.{Caller}
use Rattle.hsm_system.proofs.Done.{replied, issue_keeps}
use Rattle.hsm_system.proofs.system.System.issue.Goals as goal

pub returns-clause-done : goal.returns-clause-done
returns-clause-done g c = replied g.D.Disk _ _ c.self.view_is c.issue.new.self (Caller c.args.caller) (action.Issue c.args.call) c.issue.result tt c.issue.ensures.answered c.answered.result c.answered.ensures.served c.answered.ensures.stopped

pub returns-clause-keeps : goal.returns-clause-keeps
returns-clause-keeps g c = issue_keeps g.D.Disk _ _ c.self.view_is c.issue.new.self c.answered.result c.issue.ensures.safe c.issue.ensures.keeps c.args.caller c.args.call c.issue.ensures.room
