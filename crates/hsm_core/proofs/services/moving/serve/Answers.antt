use Rattle.std.proofs.Common.{sym, subst}
use Rattle.hsm_types.specs.declared.dm.DmCall.{DmCall}
use Rattle.hsm_core.specs.Services.{IsServedByFiles}
use Rattle.hsm_core.proofs.services.moving.serve.Goals as goal

pub returns-in-PunchHole : goal.returns-in-PunchHole
returns-in-PunchHole g c =
    subst (λ (call : DmCall). IsServedByFiles g.D.Disk c.args.files.now c.args.number call c.punch.result c.punch.new.files) (sym c.in-PunchHole.is) (record { serves = c.punch.ensures.serves; ends = c.punch.ensures.ends })

pub returns-in-Seal : goal.returns-in-Seal
returns-in-Seal g c =
    subst (λ (call : DmCall). IsServedByFiles g.D.Disk c.args.files.now c.args.number call c.seal.result c.seal.new.files) (sym c.in-Seal.is) (record { serves = c.seal.ensures.serves; ends = c.seal.ensures.ends })

pub returns-in-Restore : goal.returns-in-Restore
returns-in-Restore g c =
    subst (λ (call : DmCall). IsServedByFiles g.D.Disk c.args.files.now c.args.number call c.restore.result c.restore.new.files) (sym c.in-Restore.is) (record { serves = c.restore.ensures.serves; ends = c.restore.ensures.ends })
