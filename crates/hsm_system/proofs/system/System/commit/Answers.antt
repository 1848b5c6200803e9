use Rattle.plain_model.specs.declared.entries.Action.TheVariants as action
use Rattle.plain_model.specs.declared.entries.Actor.TheVariants.{Store as TheStore}
use Rattle.hsm_system.proofs.Done.{replied, commit_keeps}
use Rattle.hsm_system.proofs.system.System.commit.Goals as goal

pub returns-clause-done : goal.returns-clause-done
returns-clause-done g c = replied g.D.Disk _ _ c.self.view_is c.commit.new.self TheStore action.Commit c.commit.result tt c.commit.ensures.committed c.answered.result c.answered.ensures.served c.answered.ensures.stopped

pub returns-clause-keeps : goal.returns-clause-keeps
returns-clause-keeps g c = commit_keeps g.D.Disk _ _ c.self.view_is c.commit.new.self c.answered.result c.commit.ensures.safe c.commit.ensures.keeps c.commit.ensures.room
