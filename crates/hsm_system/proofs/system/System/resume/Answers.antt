use Rattle.plain_model.specs.declared.entries.Action.TheVariants as action
use Rattle.plain_model.specs.declared.entries.Actor.TheVariants.{Caller}
use Rattle.hsm_system.proofs.Done.{replied, resume_keeps}
use Rattle.hsm_system.proofs.system.System.resume.Goals as goal

pub returns-clause-done : goal.returns-clause-done
returns-clause-done g c = replied g.D.Disk _ _ c.self.view_is c.resume.new.self (Caller c.args.caller) action.Resume c.resume.result tt c.resume.ensures.resumed c.answered.result c.answered.ensures.served c.answered.ensures.stopped

pub returns-clause-keeps : goal.returns-clause-keeps
returns-clause-keeps g c = resume_keeps g.D.Disk _ _ c.self.view_is c.resume.new.self c.answered.result c.resume.ensures.safe c.resume.ensures.keeps c.args.caller c.resume.result c.resume.ensures.room c.resume.ensures.aborts c.answered.ensures.stopped
