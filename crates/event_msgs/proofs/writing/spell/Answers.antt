use Rattle.std.proofs.Common.{◌++◌, ◌∙◌, List, ℕ, ap, subst, sym}
use Rattle.hsm_types.specs.Messages.{message_text}
use Rattle.std.proofs.lemmas.List.Elements.{All-nil}
use Rattle.event_msgs.specs.Buffers.{IsInGrammar}
use Rattle.event_msgs.proofs.PackedMessages.{WrittenBefore, written_none, written_more, written_all, good_more, good_all, one_is, last_is}
use Rattle.event_msgs.proofs.writing.spell.Goals as goal

pub loop-message-init : goal.loop-message-init
loop-message-init c = (
  subst (λ (out : List ℕ). WrittenBefore out c.args.messages.now c.in-Some.before.now c.in-Some.last.now 0) (sym c.in_ok-out.ensures.items)
      (written_none c.args.messages.now c.in-Some.before.now c.in-Some.last.now c.in-Some.ensures.cases.0),
  All-nil IsInGrammar,
)

pub message_bytes-requires : goal.message_bytes-requires
message_bytes-requires c =
    one_is c.args.messages.now c.in-Some.before.now c.in-Some.last.now c.loop-message.message-index c.message-item.result c.requires c.in-Some.ensures.cases.0 c.loop-message-test.true c.message-item.is

pub put_message-requires : goal.put_message-requires
put_message-requires c =
    one_is c.args.messages.now c.in-Some.before.now c.in-Some.last.now c.loop-message.message-index c.message-item.result c.requires c.in-Some.ensures.cases.0 c.loop-message-test.true c.message-item.is

pub put_message-requires-2 : goal.put_message-requires-2
put_message-requires-2 c = last_is c.args.messages.now c.in-Some.before.now c.in-Some.last.now c.requires c.in-Some.ensures.cases.0

pub loop-message-preserved : goal.loop-message-preserved
loop-message-preserved c =
    let written = c.in_ok-put_message.ensures.bytes ∙ ap (λ (next : ℕ). c.loop-message.out.items ++ message_text next c.message-item.result) c.message_bytes.ensures.bytes in (
      written_more c.loop-message.out.items c.put_message.new.out.items c.args.messages.now c.in-Some.before.now c.in-Some.last.now c.loop-message.message-index c.message-item.result
          c.loop-message-test.true c.message-item.is written c.loop-message.invariant.0,
      good_more c.in-Some.before.now c.loop-message.message-index c.message-item.result c.loop-message-test.true c.message-item.is c.in_ok-put_message.ensures.grammar c.loop-message.invariant.1,
    )

pub returns-clause-bytes : goal.returns-clause-bytes
returns-clause-bytes c =
    written_all c.loop-message.out.items c.put_message-2.new.out.items c.args.messages.now c.in-Some.before.now c.in-Some.last.now c.loop-message.message-index c.loop-message-test.false
    c.in_ok-put_message-2.ensures.bytes c.loop-message.invariant.0

pub returns-clause-grammar : goal.returns-clause-grammar
returns-clause-grammar c =
    good_all c.args.messages.now c.in-Some.before.now c.in-Some.last.now c.loop-message.message-index c.in-Some.ensures.cases.0 c.loop-message-test.false c.in_ok-put_message-2.ensures.grammar c.loop-message.invariant.1
