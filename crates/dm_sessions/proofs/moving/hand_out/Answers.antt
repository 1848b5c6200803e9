use Rattle.std.proofs.Common.{◌≡◌, ◌++◌, ◌∷◌, [], length, refl, sym, ap, ◌∙◌, arith, append-nil}
use Rattle.std.proofs.lemmas.List.{length-drop}
use Rattle.std.specs.Option.{option_to_list}
use Rattle.dm_sessions.proofs.Moves.{absent, handed-front, handed-more, handed-absent, handed-own, handed-room, next-length}
use Rattle.dm_sessions.proofs.moving.hand_out.Goals as goal

pub loop-init : goal.loop-init
loop-init c = record { handed = record { left = refl; held_is = sym (append-nil c.args.outstanding.now.entries) }; room = omega arith }

pub unwrap-message-requires : goal.unwrap-message-requires
unwrap-message-requires c = c.pop_front.ensures.variant.1 (omega (arith, ap length c.loop.invariant.handed.left ∙ length-drop c.loop.counter c.args.queue.now))

pub hold-requires-clause-room : goal.hold-requires-clause-room
hold-requires-clause-room c =
    let front : c.loop.queue ≡ (c.unwrap-message.result ∷ []) ++ c.pop_front.new.self = c.pop_front.ensures.items ∙ ap (λ o. option_to_list o ++ c.pop_front.new.self) c.unwrap-message.ensures in
    let first = handed-front c.args.queue.now c.args.outstanding.now.entries c.loop.queue c.loop.outstanding.entries c.loop.counter c.unwrap-message.result c.pop_front.new.self (omega arith) c.loop.invariant.handed front in
    omega (arith, c.loop.invariant.room, handed-room c.args.queue.now c.loop.counter c.args.count c.unwrap-message.result (omega arith) (omega arith) first.0)

pub hold-requires-clause-absent : goal.hold-requires-clause-absent
hold-requires-clause-absent c real =
    let front : c.loop.queue ≡ (c.unwrap-message.result ∷ []) ++ c.pop_front.new.self = c.pop_front.ensures.items ∙ ap (λ o. option_to_list o ++ c.pop_front.new.self) c.unwrap-message.ensures in
    absent c.unwrap-message.result.token c.loop.outstanding.entries (handed-own c.args.queue.now c.args.outstanding.now.entries c.loop.outstanding.entries c.loop.counter c.loop.invariant.handed.held_is c.requires.kept)
    (handed-absent c.args.queue.now c.args.outstanding.now.entries c.loop.queue c.loop.outstanding.entries c.loop.counter c.unwrap-message.result c.pop_front.new.self (omega arith) c.loop.invariant.handed front c.requires.apart real)

pub loop-preserved : goal.loop-preserved
loop-preserved c =
    let front : c.loop.queue ≡ (c.unwrap-message.result ∷ []) ++ c.pop_front.new.self = c.pop_front.ensures.items ∙ ap (λ o. option_to_list o ++ c.pop_front.new.self) c.unwrap-message.ensures in
    let first = handed-front c.args.queue.now c.args.outstanding.now.entries c.loop.queue c.loop.outstanding.entries c.loop.counter c.unwrap-message.result c.pop_front.new.self (omega arith) c.loop.invariant.handed front in
    record {
      handed = handed-more c.args.queue.now c.args.outstanding.now.entries c.loop.queue c.loop.outstanding.entries c.hold.new.outstanding.entries c.loop.counter c.unwrap-message.result c.pop_front.new.self (omega arith) c.loop.invariant.handed front c.hold.ensures.held;
      room = omega (arith, c.loop.invariant.room, c.hold.ensures.room_left, next-length c.args.queue.now c.loop.counter c.unwrap-message.result (omega arith) first.0);
    }

pub returns-clause-left : goal.returns-clause-left
returns-clause-left c = let end : c.loop.counter ≡ c.args.count = omega arith in rw (← end) c.loop.invariant.handed.left

pub returns-clause-held : goal.returns-clause-held
returns-clause-held c = let end : c.loop.counter ≡ c.args.count = omega arith in rw (← end) c.loop.invariant.handed.held_is
