use Rattle.std.proofs.Common.{arith}
use Rattle.event_msgs.proofs.Walks.{goes_on, gets_smaller, is_packed, is_bad, is_nothing, is_something}
use Rattle.event_msgs.proofs.unpacking.views.Goals as goal

pub invariant_of-result : goal.invariant_of-result
invariant_of-result c =
    let all = is_packed c.args.buf.now c.loop-after.rest.now c.in-Some.field-0-0 c.in-Some.after (λ i. omega (arith, c.type_inv.buf i)) c.loop-after.invariant (is_nothing c.in-Some.after.now c.if-is_empty.ensures) c.in-Some.ensures in
    (all.each, all.bytes)

pub returns-then-is_empty-clause-messages : goal.returns-then-is_empty-clause-messages
returns-then-is_empty-clause-messages c =
    is_packed c.args.buf.now c.loop-after.rest.now c.in-Some.field-0-0 c.in-Some.after (λ i. omega (arith, c.type_inv.buf i)) c.loop-after.invariant (is_nothing c.in-Some.after.now c.if-is_empty.ensures) c.in-Some.ensures

pub loop-after-smaller : goal.loop-after-smaller
loop-after-smaller c = gets_smaller c.args.buf.now c.loop-after.rest.now c.in-Some.field-0-0 c.in-Some.after (λ i. omega (arith, c.type_inv.buf i)) c.loop-after.invariant c.in-Some.ensures

pub loop-after-preserved : goal.loop-after-preserved
loop-after-preserved c =
    goes_on c.args.buf.now c.loop-after.rest.now c.in-Some.field-0-0 c.in-Some.after (λ i. omega (arith, c.type_inv.buf i)) c.loop-after.invariant (is_something c.in-Some.after.now c.if-is_empty.ensures) c.in-Some.ensures

pub returns-clause-bad : goal.returns-clause-bad
returns-clause-bad c = is_bad c.args.buf.now c.loop-after.rest.now c.loop-after.invariant c.in_default.ensures
