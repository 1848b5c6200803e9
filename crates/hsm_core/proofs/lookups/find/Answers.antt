use Rattle.std.proofs.Common.{List, ◌∙◌, ap}
use Rattle.std.specs.Option.{option_map}
use Rattle.plain_model.specs.Plain.{Listed, named}
use Rattle.inode_table.specs.Listing.{listing}
use Rattle.inode_table.specs.Table.{Table}
use Rattle.meta_store.specs.Catalogs.{Catalog, names_of}
use Rattle.meta_store.specs.Meta.{Meta}
use Rattle.hsm_core.proofs.ListedFiles.{names_of-entries}
use Rattle.hsm_core.proofs.lookups.find.Goals as goal

pub returns : goal.returns
returns g c =
    c.find.ensures ∙ ap (λ (names : List Listed). option_map (λ l. l.key) (named c.args.name.now names))
    (ap (λ (t : Table). listing t.files) c.names.ensures ∙ names_of-entries c.catalog.result.now.files
    ∙ ap (λ (known : Catalog). names_of known.files) (c.catalog.ensures.catalog ∙ ap (λ (m : Meta). m.current) c.meta.ensures.meta) ∙ c.meta.ensures.shows.names)
