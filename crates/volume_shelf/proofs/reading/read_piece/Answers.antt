use Rattle.std.proofs.Common.{ap, ◌∙◌, take, length, get_or, []}
use Rattle.volume_shelf.proofs.Pieces.{drop-behind}
use Rattle.volume_shelf.proofs.reading.read_piece.Goals as goal

pub returns-in-Ok-clause-told : goal.returns-in-Ok-clause-told
returns-in-Ok-clause-told g c = λ o given there.
    let bytes = c.in-Ok.ensures.bytes o given in
    bytes.1 ∙ ap (take (length c.args.buf.now)) (drop-behind 72 c.args.at (get_or o c.args.object []))
