use Rattle.std.proofs.Common.{◌∙◌}
use Rattle.journal_fold.specs.FoldedStores.{files_in}
use Rattle.journal_fold.proofs.FoldedNames.{name_told}
use Rattle.journal_fold.proofs.stores.FoldedStore.has_name.Goals as goal

pub returns : goal.returns
returns c = c.contains_key.ensures ∙ name_told c.as_slice.result.now c.args.name.now c.args.self.now.names.entries (files_in c.args.self.now) c.as_slice.ensures c.requires.index
