use Rattle.std.proofs.Common.{refl}
use Rattle.hsm_system.proofs.Calls.{answers, stops_for}
use Rattle.hsm_system.proofs.Within.{call_within}
use Rattle.hsm_system.proofs.system.System.call_for.Goals as goal

pub tell-requires : goal.tell-requires
tell-requires g c = call_within g.D.Disk _ _ c.self.view_is c.dm.new.self c.args.sid c.args.call c.dm.result c.self.invariant c.args.daemon _ c.requires c.dm.ensures.told c.in-Ok.ensures.served.0

pub returns-in-Ok-clause-answered : goal.returns-in-Ok-clause-answered
returns-in-Ok-clause-answered g c =
    let e = c.dm.ensures in
    answers g.D.Disk c.args.daemon c.args.sid c.args.call c.dm.result _ _ c.self.view_is c.dm.new.self (record { told = e.told; responds = e.responds; spared = e.spared; safe = e.safe; room = e.room; keeps = e.keeps; rest = refl }) c.tell.new.self
    _ c.in-Ok.ensures.served c.tell.ensures

pub returns-in-Err-clause-stopped : goal.returns-in-Err-clause-stopped
returns-in-Err-clause-stopped g c =
    let e = c.dm.ensures in
    stops_for g.D.Disk c.args.daemon c.args.sid c.args.call c.dm.result _ _ c.self.view_is c.dm.new.self (record { told = e.told; responds = e.responds; spared = e.spared; safe = e.safe; room = e.room; keeps = e.keeps; rest = refl }) c.tell-in-Err.new.self
    c.in-Err.why c.in-Err.ensures.stopped c.tell-in-Err.ensures
