use Rattle.std.proofs.Common.{◌≡◌, ◌∙◌, length, arith}
use Rattle.std.specs.List.{concat}
use Rattle.file_body.specs.HeldBodies.{pieces}
use Rattle.file_body.proofs.Pieces.{block_is, block_none}
use Rattle.file_body.proofs.segment_lists.fill_block.Goals as goal

pub returns-then-count-eq0 : goal.returns-then-count-eq0
returns-then-count-eq0 c =
    c.put_front.ensures ∙ block_none (concat (pieces c.args.segments.now)) c.args.block (omega arith)

pub returns : goal.returns
returns c =
    let whole : length c.piece_at.result.now ≡ c.min-count.result = c.piece_at.ensures.whole (omega arith) in
    c.put_front-2.ensures
    ∙ block_is (concat (pieces c.args.segments.now)) c.piece_at.result.now c.args.block _ (omega arith) (omega (arith, whole)) c.piece_at.ensures.bytes
