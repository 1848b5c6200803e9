use Rattle.std.proofs.Common.{◌∙◌, sym, arith}
use Rattle.block_cache.proofs.Used.{lookup_has, turned_same, turned_lengths, turned_shown, turned_keys, turned_stay}
use Rattle.block_cache.proofs.loading.promote_block.Goals as goal

pub returns-clause-there : goal.returns-clause-there
returns-clause-there c = c.promote.ensures.value ∙ lookup_has c.args.block c.args.blocks.now.entries

pub returns-clause-absent : goal.returns-clause-absent
returns-clause-absent c absent = turned_same c.args.block c.args.blocks.now c.promote.new.self c.promote.ensures.entries (sym (lookup_has c.args.block c.args.blocks.now.entries) ∙ sym c.promote.ensures.value ∙ absent)

pub returns-clause-lengths : goal.returns-clause-lengths
returns-clause-lengths c = turned_lengths c.args.block c.args.blocks.now c.promote.new.self c.promote.ensures.entries

pub returns-clause-shown : goal.returns-clause-shown
returns-clause-shown c at content = turned_shown c.args.block c.args.blocks.now c.promote.new.self c.promote.ensures.entries at content

pub returns-clause-keys : goal.returns-clause-keys
returns-clause-keys c there =
    turned_keys c.args.block c.args.blocks.now c.promote.new.self c.promote.ensures.entries (sym (lookup_has c.args.block c.args.blocks.now.entries) ∙ sym c.promote.ensures.value ∙ there)
    (omega (arith, c.len-count.ensures.valid.1, c.requires.cap))

pub returns-clause-stay : goal.returns-clause-stay
returns-clause-stay c there =
    turned_stay c.args.block c.args.blocks.now c.promote.new.self c.promote.ensures.entries (sym (lookup_has c.args.block c.args.blocks.now.entries) ∙ sym c.promote.ensures.value ∙ there)
    (omega (arith, c.len-count.ensures.valid.1, c.requires.cap))
