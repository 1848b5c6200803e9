use Rattle.file_store.proofs.Names.{arith}
use Rattle.file_store.proofs.RewriteRecords.{more_unsealed, all_unsealed}
use Rattle.file_store.proofs.plans.push_unsealed.Goals as goal

pub loop-segment-preserved : goal.loop-segment-preserved
loop-segment-preserved c =
    let so_far = c.loop-segment.invariant in
    let next = c.in-Some.ensures in
    record {
      begun = omega (arith, so_far.begun, next.0);
      most = omega (arith, c.if-segment-to.false);
      so_far = more_unsealed c.args.ino c.args.from c.loop-segment.start c.in-Some.segment c.args.stubs.now _ _ _ so_far.begun next.0 next.2 c.in_ok-push.ensures.items so_far.so_far;
    }

pub returns-then-segment-to : goal.returns-then-segment-to
returns-then-segment-to c =
    let so_far = c.loop-segment.invariant in
    all_unsealed c.args.ino c.args.from c.loop-segment.start c.args.to c.args.stubs.now _ _ so_far.most (λ j low high. c.in-Some.ensures.2 j low (omega (arith, high, c.if-segment-to.true))) so_far.so_far

pub returns-in_default : goal.returns-in_default
returns-in_default c =
    let so_far = c.loop-segment.invariant in
    all_unsealed c.args.ino c.args.from c.loop-segment.start c.args.to c.args.stubs.now _ _ so_far.most (λ j low high. c.in_default.ensures j low) so_far.so_far
