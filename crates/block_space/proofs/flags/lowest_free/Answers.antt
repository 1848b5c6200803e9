use Rattle.std.proofs.Common.{◌≡◌, ◌+◌, ◌-◌, ◌<◌, ◌||◌, Bool, take, get_or, false, sym, ap, ◌∙◌, arith}
use Rattle.std.specs.Prelude.{vec_len}
use Rattle.std.proofs.lemmas.Bool.{not-true, not-false}
use Rattle.block_space.proofs.Walks.{used_at, free_at, free_from, taken_more}
use Rattle.block_space.proofs.flags.lowest_free.Goals as goal
use Rattle.block_space.proofs.flags.lowest_free.Goals.{then-is_free+in_ok-push, else-is_free}

pub loop-block-init : goal.loop-block-init
loop-block-init c =
    let none : vec_len c.in_ok-blocks.blocks ≡ 0 = c.in_ok-blocks.ensures.len in
    let all : c.args.count - vec_len c.in_ok-blocks.blocks ≡ c.args.count = omega arith in
    record {
      most = omega arith;
      taken = rw (c.in_ok-blocks.ensures.items, all) (ap (take c.args.count) (free_from c.args.low c.args.current.now c.args.durable.now c.requires.lengths c.requires.used));
    }

pub loop-block-preserved : goal.loop-block-preserved
loop-block-preserved c =
    let k = c.loop-block.block in
    let cs = c.args.current.now in
    let ds = c.args.durable.now in
    let used : Bool = get_or cs k false || get_or ds k false in
    elim c.if-is_free.branch [
      | then-is_free+in_ok-push w ↦
          let step = free_at k cs ds c.requires.lengths c.loop-block-test.true (not-true used (sym c.is_free.ensures ∙ w.if-is_free.true)) in
          let len : vec_len c.if-is_free.blocks ≡ vec_len c.loop-block.blocks + 1 = ap vec_len w.blocks-is ∙ w.in_ok-push.ensures.len in
          let room : vec_len c.loop-block.blocks < c.args.count = omega arith in
          record {
            most = omega arith;
            taken = rw (len, w.blocks-is, w.in_ok-push.ensures.items, taken_more _ _ _ _ _ room, ← step) c.loop-block.invariant.taken;
          }
      | else-is_free w ↦
          let step = used_at k cs ds c.requires.lengths c.loop-block-test.true (not-false used (sym c.is_free.ensures ∙ w.if-is_free.false)) in
          rw (w.blocks-is, ← step) c.loop-block.invariant
    ]
