use Rattle.std.proofs.Common.{sym, subst}
use Rattle.hsm_types.specs.declared.dm.DmCall.{DmCall}
use Rattle.hsm_core.specs.Services.{IsServedByFiles}
use Rattle.hsm_core.proofs.services.change.Goals as goal

pub returns-in-SetRegion : goal.returns-in-SetRegion
returns-in-SetRegion g c =
    subst (λ (call : DmCall). IsServedByFiles g.D.Disk c.args.files.now c.args.number call c.set.result c.set.new.files) (sym c.in-SetRegion.is) (record { serves = c.set.ensures.serves; ends = c.set.ensures.ends })

pub returns-in-SetDmAttr : goal.returns-in-SetDmAttr
returns-in-SetDmAttr g c =
    subst (λ (call : DmCall). IsServedByFiles g.D.Disk c.args.files.now c.args.number call c.set-in-SetDmAttr.result c.set-in-SetDmAttr.new.files) (sym c.in-SetDmAttr.is) (record { serves = c.set-in-SetDmAttr.ensures.serves; ends = c.set-in-SetDmAttr.ensures.ends })

pub returns-in-RemoveDmAttr : goal.returns-in-RemoveDmAttr
returns-in-RemoveDmAttr g c =
    subst (λ (call : DmCall). IsServedByFiles g.D.Disk c.args.files.now c.args.number call c.remove.result c.remove.new.files) (sym c.in-RemoveDmAttr.is) (record { serves = c.remove.ensures.serves; ends = c.remove.ensures.ends })

pub returns-in-WriteInvis : goal.returns-in-WriteInvis
returns-in-WriteInvis g c =
    subst (λ (call : DmCall). IsServedByFiles g.D.Disk c.args.files.now c.args.number call c.write.result c.write.new.files) (sym c.in-WriteInvis.is) (record { serves = c.write.ensures.serves; ends = c.write.ensures.ends })
