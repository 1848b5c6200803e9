use Rattle.std.proofs.Common.{◌∙◌, arith}
use Rattle.block_cache.proofs.Used.{put_lengths, put_shown, put_keys}
use Rattle.block_cache.proofs.loading.put_block.Goals as goal

pub returns-in-Ok-clause-lengths : goal.returns-in-Ok-clause-lengths
returns-in-Ok-clause-lengths c = put_lengths c.args.block c.args.blocks.now c.put.new.self c.copy_from_slice.new.self c.in-Ok.ensures.entries (rw c.copy_from_slice.ensures.after c.requires.size)

pub returns-in-Ok-clause-shown : goal.returns-in-Ok-clause-shown
returns-in-Ok-clause-shown c at content same = put_shown c.args.block c.args.blocks.now c.put.new.self c.copy_from_slice.new.self c.in-Ok.ensures.entries at content (c.copy_from_slice.ensures.after ∙ same)

pub returns-in-Ok-clause-keys : goal.returns-in-Ok-clause-keys
returns-in-Ok-clause-keys c = put_keys c.args.block c.args.blocks.now c.put.new.self c.copy_from_slice.new.self c.in-Ok.ensures.entries c.requires.cap (omega (arith, c.len-count.ensures.valid.1, c.requires.cap))
