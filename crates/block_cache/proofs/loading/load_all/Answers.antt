use Rattle.std.proofs.Common.{◌∙◌}
use Rattle.std.specs.Map.{keys_of}
use Rattle.disk_model.proofs.Steps.{sames_on}
use Rattle.block_cache.proofs.Runs.{on_err, stopped_on, used_on, within_on, first_there}
use Rattle.block_cache.proofs.loading.load_all.Goals as goal

pub returns-in_err-done-clause-stopped : goal.returns-in_err-done-clause-stopped
returns-in_err-done-clause-stopped g c =
    let I = c.loop-done.invariant in
    let ks = keys_of c.args.blocks.now.entries in
    on_err c.from_residual.result (stopped_on c.loop-done.done c.args.wanted.now (keys_of c.load_next.new.blocks.entries) (keys_of c.loop-done.blocks.entries) ks I.within I.keys c.in_err-done.ensures.stopped)

pub loop-done-preserved : goal.loop-done-preserved
loop-done-preserved g c =
    let I = c.loop-done.invariant in
    let L = c.in_ok-done.ensures in
    let bs = c.args.wanted.now in
    let done = c.loop-done.done in
    let ks = keys_of c.args.blocks.now.entries in
    record {
      reads = (sames_on g.D.Disk _ _ _ I.reads.0 L.reads.0, (λ x h. I.reads.1.0 x (L.reads.1.0 x h), λ x h. L.reads.1.1 x (I.reads.1.1 x h)));
      room = L.room;
      cap = L.cap;
      within = within_on done c.in_ok-done.field-0 bs c.loop-done-test.true L.count.1;
      lengths = λ are. L.lengths (I.lengths are);
      shown = λ content gives are. L.shown content (I.reads.1.1 content gives) (I.shown content gives are);
      keys = used_on done c.in_ok-done.field-0 bs (keys_of c.load_next.new.blocks.entries) (keys_of c.loop-done.blocks.entries) ks I.keys L.keys;
      there = λ are. let t = I.there are in let here = first_there done bs (keys_of c.loop-done.blocks.entries) c.loop-done-test.true t.0 in (L.stay here bs t.0, (L.there here).1 ∙ t.1);
      quiet = L.faults.quiet (λ e. cc) ∙ I.quiet;
    }
