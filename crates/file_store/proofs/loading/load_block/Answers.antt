use Rattle.file_store.proofs.Names.{◌∙◌, sym}
use Rattle.file_store.proofs.Beside.{block_in}
use Rattle.file_store.proofs.loading.load_block.Goals as goal

pub returns-clause-bytes : goal.returns-clause-bytes
returns-clause-bytes g c = λ d gives. c.in_ok-read_at.ensures.bytes d gives ∙ rw (c.requires.len, c.offset_of.ensures.begins) (sym (block_in c.args.geometry d c.args.place c.requires.place))
