use Rattle.std.proofs.Common.{ℕ, Option, ◌∙◌, ap}
use Rattle.std.specs.Prelude.{is_some}
use Rattle.std.specs.Option.{option_map}
use Rattle.hsm_types.specs.Keyed.{find_key}
use Rattle.inode_table.specs.Table.{Table}
use Rattle.meta_store.specs.Catalogs.{Catalog}
use Rattle.meta_store.specs.Meta.{Meta}
use Rattle.hsm_core.proofs.ListedFiles.{entries, live-shown}
use Rattle.hsm_core.proofs.lookups.is_live.Goals as goal

pub returns : goal.returns
returns g c =
    c.is_some.ensures ∙ ap (λ (o : Option ℕ). is_some o) c.size.ensures
    ∙ ap (λ (t : Table). is_some (option_map (λ e. e.size) (find_key (λ e. e.key) c.args.key t.files))) c.names.ensures
    ∙ ap (λ (known : Catalog). is_some (option_map (λ e. e.size) (find_key (λ e. e.key) c.args.key (entries known.files)))) (c.catalog.ensures.catalog ∙ ap (λ (m : Meta). m.current) c.meta.ensures.meta)
    ∙ live-shown c.args.key c.args.files.now.meta.current c.args.files.now.held c.meta.ensures.shows
