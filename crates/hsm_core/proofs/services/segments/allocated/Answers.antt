use Rattle.std.proofs.Common.{ℕ, List, sym, ◌∙◌, ap, subst}
use Rattle.std.specs.Prelude.{IfOk}
use Rattle.hsm_types.specs.declared.dm.DmReply.TheVariants as reply
use Rattle.hsm_types.specs.declared.stubs.Segment.{Segment}
use Rattle.plain_model.specs.State.{file_at}
use Rattle.meta_store.specs.Catalogs.{Catalog}
use Rattle.meta_store.specs.Meta.{Meta}
use Rattle.dm_service.specs.Services.{AreBoth}
use Rattle.file_store.specs.Stores.{Shows}
use Rattle.hsm_core.specs.Services.{IsMadeOf}
use Rattle.hsm_core.proofs.ToldSegments.{made_of_parts}
use Rattle.hsm_core.proofs.services.segments.allocated.Goals as goal

pub returns : goal.returns
returns g c =
    let catalog : Catalog = c.catalog.result.now in
    let shows : Shows catalog c.args.files.now.held = subst (λ (x : Catalog). Shows x c.args.files.now.held) (sym (c.catalog.ensures.catalog ∙ ap (λ (m : Meta). m.current) c.meta.ensures.meta)) c.meta.ensures.shows in
    let made = made_of_parts catalog c.args.files.now.held c.args.handle.key c.parts-parts.result.now shows c.parts-parts.ensures in
    subst (λ (told : List Segment). IfOk c.twice.result (λ r. AreBoth (reply.Alloc told) r))
    (c.in_ok-segments_of.ensures (file_at c.args.handle.key c.args.files.now.held.files)
    (subst (λ (n : ℕ). IsMadeOf n c.parts-parts.result.now.places c.parts-parts.result.now.stubs (file_at c.args.handle.key c.args.files.now.held.files)) (sym c.size-size.ensures.size) made))
    c.twice.ensures
