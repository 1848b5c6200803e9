use Rattle.file_store.proofs.Names.{◌∙◌, sym}
use Rattle.file_body.proofs.ChangedBlocks.{resized-block}
use Rattle.file_store.proofs.rewrites.Rewrite.fill_block.Goals as goal

pub returns-in-Resize : goal.returns-in-Resize
returns-in-Resize c = rw c.in-Resize.is (c.fill_block.ensures ∙ sym (resized-block c.args.body.now.bytes c.in-Resize.size c.args.block (rw c.in-Resize.is at c.requires.grows)))
