use Rattle.std.proofs.Common.{◌∙◌}
use Rattle.dm_attrs.proofs.Counting.{remove_entry-is_at}
use Rattle.journal_fold.proofs.files.drop_attribute.Goals as goal

pub returns : goal.returns
returns c = c.drop_entry.ensures ∙ remove_entry-is_at c.args.name c.args.attributes.now.items
