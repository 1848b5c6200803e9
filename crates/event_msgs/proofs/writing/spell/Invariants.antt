use Rattle.event_msgs.proofs.PackedMessages.{SpelledBefore}
use Rattle.event_msgs.proofs.writing.spell.Given as goal

abbrev pub invariant-loop-message : goal.invariant-loop-message
invariant-loop-message l = SpelledBefore l.out.items l.messages l.before l.last l.message-index
