use Rattle.std.proofs.Common.{take, length, ◌≡◌, ◌∙◌, sym, arith, length-take}
use Rattle.volume_shelf.specs.Shelf.{payload_in}
use Rattle.volume_shelf.proofs.Pieces.{piece-told, piece-ends}
use Rattle.volume_shelf.proofs.reading.add_piece.Goals as goal

pub returns-clause-adds : goal.returns-clause-adds
returns-clause-adds g c = λ bytes far. (
  take c.min-count.result c.read_piece.new.buf,
  c.add.ensures.bytes bytes far,
  λ o given there. rw c.len-at.ensures at (piece-told c.read_piece.new.buf (payload_in c.args.object o) c.in_ok-read_piece.field-0 c.len-at.result (length c.args.buf.now) c.min-count.result (c.in_ok-read_piece.ensures.told o given there) c.in_ok-read_piece.ensures.count (omega (arith, c.min-count.ensures))),
)

pub returns-clause-ends : goal.returns-clause-ends
returns-clause-ends g c = λ none o given there is.
    let at_end : c.len-at.result ≡ c.args.len = piece-ends c.read_piece.new.buf (payload_in c.args.object o) c.in_ok-read_piece.field-0 c.len-at.result (length c.args.buf.now) c.args.len (c.in_ok-read_piece.ensures.told o given there) c.requires.room (omega (arith, c.len-at.ensures, c.requires.within)) is (sym c.min-count.ensures ∙ none) in
    omega (arith, at_end, c.len-at.ensures, c.add.ensures.len, none, length-take c.min-count.result c.read_piece.new.buf)
