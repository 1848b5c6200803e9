use Rattle.std.proofs.Common.{sym, ◌∙◌, ap, subst}
use Rattle.std.specs.Prelude.{IfOk}
use Rattle.hsm_types.specs.declared.dm.DmReply.TheVariants as reply
use Rattle.hsm_types.specs.declared.tables.Table.{Table}
use Rattle.meta_store.specs.Catalogs.{Catalog}
use Rattle.meta_store.specs.Meta.{Meta}
use Rattle.dm_service.specs.Services.{AreBoth}
use Rattle.file_store.specs.Stores.{Shows}
use Rattle.hsm_core.proofs.services.tables.table.Goals as goal

pub returns : goal.returns
returns g c = λ t.
    let held = c.args.files.now.held in
    let shown : Shows c.catalog-catalog.result.now held = subst (λ (x : Catalog). Shows x held) (sym (c.catalog-catalog.ensures.catalog ∙ ap (λ (m : Meta). m.current) c.meta.ensures.meta)) c.meta.ensures.shows in
    subst (λ (told : Table). IfOk c.twice.result (λ r. AreBoth (reply.Table told) r)) (rw c.superblock-superblock.ensures.superblock at (c.in_ok-table.ensures held shown)) c.twice.ensures
