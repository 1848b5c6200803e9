use Rattle.journal_records.specs.declared.records.Record.TheVariants.{Regions}
use Rattle.plain_model.specs.Services.{kept_of}
use Rattle.file_store.proofs.Names.{sym, ◌∙◌}
use Rattle.file_store.proofs.EventTexts.{small_regions}
use Rattle.file_store.proofs.Ended.{ends_as}
use Rattle.file_store.proofs.store.FileStore.set_regions.Goals as goal

pub returns-clause-changed : goal.returns-clause-changed
returns-clause-changed g c = record { held = c.record.ensures.held; ends = ends_as (c.inode-ino.ensures.refusal (Regions c.inode-ino.result c.args.regions) c.inode-ino.ensures.inode) c.record.ensures.ends }

pub record-requires-clause-small : goal.record-requires-clause-small
record-requires-clause-small g c = λ none.
    small_regions c.args.self.now.meta.durable.geometry c.args.regions (kept_of c.args.key c.args.self.now.held.files).stubs (sym (c.inode-ino.ensures.refusal (Regions c.inode-ino.result c.args.regions) c.inode-ino.ensures.inode) ∙ none)
