use Rattle.std.proofs.Common.{◌≡◌, ◌*◌, ◌∙◌, arith}
use Rattle.hsm_types.specs.Limits.{block_bytes}
use Rattle.file_body.proofs.ChangedBlocks.{written-block}
use Rattle.file_body.proofs.bodies.Body.fill_written_block.Goals as goal

pub returns : goal.returns
returns c =
    let start : c.args.block * block_bytes ≡ block_bytes * c.args.block = omega arith in
    let over = rw (c.fill_block.ensures, c.from.ensures, start) at c.overlay.ensures in
    over ∙ written-block c.args.offset c.args.bytes.now c.args.self.now.bytes c.args.block
