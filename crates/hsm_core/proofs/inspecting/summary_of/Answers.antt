use Rattle.std.proofs.Common.{◌≡◌, sym, ◌∙◌, ap, subst}
use Rattle.plain_model.specs.Segments.{table_of}
use Rattle.meta_store.specs.Catalogs.{Catalog}
use Rattle.snapshot_text.specs.Files.{geometry_of}
use Rattle.file_store.specs.Stores.{Shows}
use Rattle.hsm_core.specs.Stamps.{stamp_in}
use Rattle.hsm_core.proofs.Summaries.{names_shown}
use Rattle.hsm_core.proofs.inspecting.summary_of.Goals as goal

pub returns : goal.returns
returns c = λ held shown.
    let current : Catalog = c.args.meta.now.current in
    let known : Shows c.catalog-catalog.result.now held = subst (λ (x : Catalog). Shows x held) (sym c.catalog-catalog.ensures.catalog) shown in
    let geometry : c.geometry_of.result ≡ geometry_of current.geometry = c.geometry_of.ensures.geometry ∙ ap geometry_of (c.geometry.ensures.geometry ∙ ap (λ (x : Catalog). x.geometry) c.catalog-catalog.ensures.catalog) in
    let table = c.in_ok-table_of.ensures held known ∙ (λ i. table_of (record { geometry = geometry i; fsid = c.fsid.ensures i }) (stamp_in (c.new.ensures.empty i)) held) in
    let names = c.in_ok-names_of.ensures ∙ names_shown c.catalog-catalog.result.now held known in
    λ i. record { number = c.number.ensures.number i; table = table i; names = names i }
