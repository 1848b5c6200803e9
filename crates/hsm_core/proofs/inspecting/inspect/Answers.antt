use Rattle.std.proofs.Common.{◌≡◌, subst}
use Rattle.plain_model.specs.State.{Held}
use Rattle.meta_store.specs.Catalogs.{Catalog}
use Rattle.meta_store.specs.Meta.{Meta}
use Rattle.meta_store.proofs.OpenedImages.{err_on}
use Rattle.file_store.specs.Stores.{Shows}
use Rattle.store_summary.specs.declared.summaries.Summary.{Summary}
use Rattle.hsm_core.specs.Summaries.{summary_of}
use Rattle.hsm_core.proofs.Summaries.{summary_found}
use Rattle.hsm_core.proofs.inspecting.inspect.Goals as goal

pub returns-in-Err-clause-not_store : goal.returns-in-Err-clause-not_store
returns-in-Err-clause-not_store g c = λ is. c.in-Err.ensures.not_store (err_on is)

pub returns-in-Err-clause-corrupt : goal.returns-in-Err-clause-corrupt
returns-in-Err-clause-corrupt g c = λ place is. c.in-Err.ensures.corrupt place (err_on is)

pub returns-in-Ok-summary_of-clause-told : goal.returns-in-Ok-summary_of-clause-told
returns-in-Ok-summary_of-clause-told g c = λ image gives.
    let meta : Meta = c.in-Ok.meta in
    let summary : Summary = c.in-Ok-summary_of.summary in
    summary_found summary meta.fsid meta.number meta.durable image (c.one_recovery.ensures image) (record { place = meta.place; holds = c.in-Ok.ensures.found image gives })
    (subst (λ (x : Catalog). (h : Held) → Shows x h → summary ≡ summary_of x.geometry meta.fsid meta.number h) c.in-Ok.ensures.same c.in-Ok-summary_of.ensures)
