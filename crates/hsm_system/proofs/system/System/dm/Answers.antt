use Rattle.plain_model.specs.declared.entries.Actor.TheVariants.{Session}
use Rattle.hsm_system.proofs.Done.{told, dm_keeps}
use Rattle.hsm_system.proofs.system.System.dm.Goals as goal

pub returns-clause-done : goal.returns-clause-done
returns-clause-done g c = told g.D.Disk _ _ c.self.view_is c.dm.new.self (Session c.args.sid) c.args.call c.dm.result c.dm.ensures.told c.told.result c.told.ensures.served c.told.ensures.stopped

pub returns-clause-keeps : goal.returns-clause-keeps
returns-clause-keeps g c = dm_keeps g.D.Disk _ _ c.self.view_is c.dm.new.self c.told.result c.dm.ensures.safe c.dm.ensures.keeps c.args.sid c.args.call c.dm.result c.dm.ensures.room c.dm.ensures.responds c.told.ensures.stopped
