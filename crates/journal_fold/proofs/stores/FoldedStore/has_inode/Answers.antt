use Rattle.std.proofs.Common.{◌∙◌}
use Rattle.journal_fold.proofs.FoldedEdits.{in_map}
use Rattle.journal_fold.proofs.stores.FoldedStore.has_inode.Goals as goal

pub returns : goal.returns
returns c = c.contains_key.ensures ∙ in_map c.args.ino c.args.self.now.files.entries c.requires.keyed
