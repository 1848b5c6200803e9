use Rattle.std.proofs.Common.{◌∙◌, ℕ, List, get_or, sym, ap}
use Rattle.std.specs.Map.{keys_of}
use Rattle.block_cache.specs.Cached.{used_last}
use Rattle.block_cache.proofs.Runs.{piece_shown}
use Rattle.block_cache.proofs.Used.{used_all_next}
use Rattle.block_cache.proofs.loading.put_run.Goals as goal

pub loop-index-preserved : goal.loop-index-preserved
loop-index-preserved c =
    let I = c.loop-index.invariant in
    let P = c.put_block.ensures in
    let i = c.loop-index.index in
    record {
      cap = P.cap;
      lengths = λ are. P.lengths (I.lengths are);
      shown = λ at first content next same are. P.shown at content (piece_shown at first i content c.args.bytes.now c.args.run.now next c.loop-index-test.true same) (I.shown at first content next same are);
      keys = c.in_ok-put_block.ensures.keys ∙ ap (λ (ks : List ℕ). used_last (get_or c.args.run.now i 0) ks) I.keys ∙ sym (used_all_next c.args.run.now (keys_of c.args.blocks.now.entries) i c.loop-index-test.true);
    }
