use Rattle.std.proofs.Common.{sym, ◌∙◌, ap, subst}
use Rattle.meta_store.specs.Catalogs.{Catalog}
use Rattle.meta_store.specs.Meta.{Meta}
use Rattle.file_store.specs.Stores.{Shows}
use Rattle.hsm_core.proofs.Summaries.{offline_shown}
use Rattle.hsm_core.proofs.store.Hsm.totals.Goals as goal

pub returns-clause-offline : goal.returns-clause-offline
returns-clause-offline g c =
    let held = c.self.inside.files.held in
    let shown : Shows c.catalog-catalog.result.now held = subst (λ (x : Catalog). Shows x held) (sym (c.catalog-catalog.ensures.catalog ∙ ap (λ (m : Meta). m.current) c.meta.ensures.meta)) c.meta.ensures.shows in
    rw (← c.self.view_is) (c.offline_of.ensures ∙ offline_shown _ _ shown)
