use Rattle.journal_records.specs.declared.records.Record.TheVariants.{DropAttr}
use Rattle.file_store.proofs.Ended.{ends_as}
use Rattle.file_store.proofs.store.FileStore.drop_attr.Goals as goal

pub returns-clause-changed : goal.returns-clause-changed
returns-clause-changed g c = record { held = c.record.ensures.held; ends = ends_as (c.inode-ino.ensures.refusal (DropAttr c.inode-ino.result c.args.name) c.inode-ino.ensures.inode) c.record.ensures.ends }

pub record-requires-clause-small : goal.record-requires-clause-small
record-requires-clause-small g c = λ none. search
