use Rattle.std.proofs.Common.{sym, subst}
use Rattle.std.specs.Prelude.{IfOk}
use Rattle.hsm_types.specs.declared.dm.DmCall.{DmCall}
use Rattle.file_store.specs.Stores.{superblock_of}
use Rattle.hsm_core.specs.Services.{AreOf, asked}
use Rattle.hsm_core.proofs.services.tell.Goals as goal

pub returns-in-GetFileAttr : goal.returns-in-GetFileAttr
returns-in-GetFileAttr g c t =
    subst (λ (call : DmCall). IfOk c.attributes.result (λ r. AreOf (asked (superblock_of c.args.files.now) c.args.files.now.held c.args.stamps.now.entries t c.args.sid call) r)) (sym c.in-GetFileAttr.is) (c.attributes.ensures t)

pub returns-in-GetTable : goal.returns-in-GetTable
returns-in-GetTable g c t =
    subst (λ (call : DmCall). IfOk c.table.result (λ r. AreOf (asked (superblock_of c.args.files.now) c.args.files.now.held c.args.stamps.now.entries t c.args.sid call) r)) (sym c.in-GetTable.is) (c.table.ensures t)
