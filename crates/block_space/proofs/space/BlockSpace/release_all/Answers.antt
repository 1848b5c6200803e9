use Rattle.std.proofs.Common.{◌≤◌, ◌∙◌, length, get_or, false, refl, arith, length-set}
use Rattle.std.proofs.lemmas.List.{drop_more, drop_all}
use Rattle.block_space.proofs.space.BlockSpace.release_all.Goals as goal

pub loop-block-init : goal.loop-block-init
loop-block-init c = record { total = refl; left = refl }

pub release-requires : goal.release-requires
release-requires c =
    let within = c.requires c.loop-block.block-index 0 c.loop-block-test.true in
    let total = c.loop-block.invariant.total in
    omega arith

pub loop-block-preserved : goal.loop-block-preserved
loop-block-preserved c =
    let block = get_or c.args.blocks.now c.loop-block.block-index 0 in
    let more = drop_more c.args.blocks.now c.loop-block.block-index 0 c.loop-block-test.true in
    rw c.release.ensures (record {
      total = length-set c.loop-block.self.current block false ∙ c.loop-block.invariant.total;
      left = rw more at c.loop-block.invariant.left;
    })

pub returns : goal.returns
returns c =
    let past : length c.args.blocks.now ≤ c.loop-block.block-index = omega arith in
    let none = drop_all c.loop-block.block-index c.args.blocks.now past in
    rw none at c.loop-block.invariant.left
