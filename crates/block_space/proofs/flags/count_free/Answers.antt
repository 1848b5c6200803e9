use Rattle.std.proofs.Common.{◌||◌, Bool, length, get_or, false, sym, ap, ◌∙◌, arith}
use Rattle.std.proofs.lemmas.Bool.{not-true, not-false}
use Rattle.block_space.proofs.Walks.{used_at, free_at, free_from}
use Rattle.block_space.proofs.flags.count_free.Goals as goal
use Rattle.block_space.proofs.flags.count_free.Goals.{then-is_free, else-is_free}

pub loop-block-init : goal.loop-block-init
loop-block-init c =
    let same = ap length (free_from c.args.low c.args.current.now c.args.durable.now c.requires.lengths c.requires.used) in
    record { most = omega arith; count = omega arith }

pub loop-block-preserved : goal.loop-block-preserved
loop-block-preserved c =
    let k = c.loop-block.block in
    let cs = c.args.current.now in
    let ds = c.args.durable.now in
    let used : Bool = get_or cs k false || get_or ds k false in
    elim c.if-is_free.branch [
      | then-is_free w ↦
          let step = ap length (free_at k cs ds c.requires.lengths c.loop-block-test.true (not-true used (sym c.is_free.ensures ∙ w.if-is_free.true))) in
          record { most = omega arith; count = omega arith }
      | else-is_free w ↦
          let step = ap length (used_at k cs ds c.requires.lengths c.loop-block-test.true (not-false used (sym c.is_free.ensures ∙ w.if-is_free.false))) in
          record { most = omega arith; count = omega arith }
    ]
