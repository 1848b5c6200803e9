use Rattle.std.proofs.Common.{◌≡◌, ◌++◌, ◌∷◌, [], refl, sym, ap, ◌∙◌, arith, append-nil}
use Rattle.std.specs.Option.{option_to_list}
use Rattle.std.specs.Prelude.{vec_capacity}
use Rattle.hsm_types.specs.Messages.{takes}
use Rattle.hsm_types.specs.declared.messages.Message.{Message}
use Rattle.dm_sessions.proofs.Moves.{parted-yes, parted-no, parted-all, parted-room, parted-some}
use Rattle.dm_sessions.proofs.moving.move_kinds.Goals as goal
use Rattle.dm_sessions.proofs.moving.move_kinds.Goals.{then-takes, else-takes}

pub loop-init : goal.loop-init
loop-init c = record { parted = record { left = sym (append-nil c.args.from.now.items); moved = sym (append-nil c.args.to.now.items) }; room = refl }

pub unwrap-message-requires : goal.unwrap-message-requires
unwrap-message-requires c = c.pop_front.ensures.variant.1 (omega (arith, c.loop.from.ok.0, parted-some (λ (m : Message). takes c.args.kinds m.kind) c.args.from.now.items c.args.to.now.items c.loop.from.items c.loop.to.items c.loop.counter (omega (arith, c.args.from.now.ok.0)) c.loop.invariant.parted))

pub push_reserved-requires : goal.push_reserved-requires
push_reserved-requires c =
    let front : c.loop.from.items ≡ (c.unwrap-message.result ∷ []) ++ c.pop_front.new.self.items = c.pop_front.ensures.items ∙ ap (λ o. option_to_list o ++ c.pop_front.new.self.items) c.unwrap-message.ensures in
    let room = parted-room (λ (m : Message). takes c.args.kinds m.kind) c.args.from.now.items c.args.to.now.items c.loop.from.items c.loop.to.items c.pop_front.new.self.items c.loop.counter (vec_capacity c.args.to.now) c.unwrap-message.result (omega arith) c.loop.invariant.parted front (sym c.takes.ensures ∙ c.if-takes.true) (omega (arith, c.args.to.now.ok.0)) in
    omega (arith, c.loop.to.ok.0, c.loop.invariant.room)

pub loop-preserved : goal.loop-preserved
loop-preserved c =
    let front : c.loop.from.items ≡ (c.unwrap-message.result ∷ []) ++ c.pop_front.new.self.items = c.pop_front.ensures.items ∙ ap (λ o. option_to_list o ++ c.pop_front.new.self.items) c.unwrap-message.ensures in
    elim c.if-takes.branch [
      | then-takes w ↦ rw (w.from-is, w.to-is, w.push_reserved.ensures.items) (record {
        parted = parted-yes (λ (m : Message). takes c.args.kinds m.kind) c.args.from.now.items c.args.to.now.items c.loop.from.items c.loop.to.items c.pop_front.new.self.items c.loop.counter c.unwrap-message.result (omega arith) c.loop.invariant.parted front (sym c.takes.ensures ∙ w.if-takes.true);
        room = w.push_reserved.ensures.capacity ∙ c.loop.invariant.room;
      })
      | else-takes w ↦ rw (w.from-is, w.to-is, w.push_back_reserved.ensures.items) (record {
        parted = parted-no (λ (m : Message). takes c.args.kinds m.kind) c.args.from.now.items c.args.to.now.items c.loop.from.items c.loop.to.items c.pop_front.new.self.items c.loop.counter c.unwrap-message.result (omega arith) c.loop.invariant.parted front (sym c.takes.ensures ∙ w.if-takes.false);
        room = c.loop.invariant.room;
      })
    ]

pub returns-clause-moved : goal.returns-clause-moved
returns-clause-moved c = (parted-all (λ (m : Message). takes c.args.kinds m.kind) c.args.from.now.items c.args.to.now.items c.loop.from.items c.loop.to.items c.loop.counter (omega arith) c.loop.invariant.parted).1

pub returns-clause-left : goal.returns-clause-left
returns-clause-left c = (parted-all (λ (m : Message). takes c.args.kinds m.kind) c.args.from.now.items c.args.to.now.items c.loop.from.items c.loop.to.items c.loop.counter (omega arith) c.loop.invariant.parted).0
