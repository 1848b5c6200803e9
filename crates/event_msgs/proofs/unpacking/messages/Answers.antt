use Rattle.std.proofs.Common.{◌∙◌, sym, ap, arith}
use Rattle.hsm_types.specs.Messages.{packed}
use Rattle.event_msgs.proofs.ToldMessages.{packed_told, bad_told, nothing_read, none_each}
use Rattle.event_msgs.proofs.unpacking.messages.Goals as goal

pub invariant_of-result : goal.invariant_of-result
invariant_of-result c = (none_each, ap packed (sym nothing_read))

pub returns-in-Ok-clause-messages : goal.returns-in-Ok-clause-messages
returns-in-Ok-clause-messages c = packed_told c.args.buf.now c.in-Ok.messages c.in-Ok.ensures.messages

pub returns-in-Err-clause-messages : goal.returns-in-Err-clause-messages
returns-in-Err-clause-messages c = nothing_read ∙ bad_told c.args.buf.now c.in-Err.field-0.place (λ i. omega (arith, c.type_inv.buf i)) c.in-Err.ensures.bad

pub returns-in-Err-clause-each : goal.returns-in-Err-clause-each
returns-in-Err-clause-each c = none_each
