use Rattle.journal_records.specs.declared.records.Record.TheVariants.{SetAttr}
use Rattle.file_store.proofs.Names.{sym, ◌∙◌}
use Rattle.file_store.proofs.EventTexts.{small_value}
use Rattle.file_store.proofs.Ended.{ends_as}
use Rattle.file_store.proofs.store.FileStore.set_attr.Goals as goal

pub returns-clause-changed : goal.returns-clause-changed
returns-clause-changed g c = record { held = c.record.ensures.held; ends = ends_as (c.inode-ino.ensures.refusal (SetAttr c.inode-ino.result c.args.name c.args.value) c.inode-ino.ensures.inode) c.record.ensures.ends }

pub record-requires-clause-small : goal.record-requires-clause-small
record-requires-clause-small g c = λ none.
    (search, small_value c.args.name c.args.value _ _ _ (sym (c.inode-ino.ensures.refusal (SetAttr c.inode-ino.result c.args.name c.args.value) c.inode-ino.ensures.inode) ∙ none))
