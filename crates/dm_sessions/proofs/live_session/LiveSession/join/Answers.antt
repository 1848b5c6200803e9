use Rattle.std.proofs.Common.{◌≡◌, ◌++◌, filter, Ok, Err, OnOk, OnErr}
use Rattle.hsm_types.specs.Messages.{takes}
use Rattle.hsm_types.specs.declared.messages.Message.{Message}
use Rattle.dm_sessions.specs.Tables.{IsSession}
use Rattle.dm_sessions.proofs.OneSession.{session-joined}
use Rattle.dm_sessions.proofs.live_session.LiveSession.join.Goals as goal

pub invariant_of-self : goal.invariant_of-self
invariant_of-self c =
    elim c.join.result as (λ r. OnOk r (c.join.new.self ≡ c.self.inside.queue ++ filter (λ (m : Message). takes c.args.kinds m.kind) c.args.messages.now.items) → OnErr r (c.join.new.self ≡ c.self.inside.queue) → IsSession c.join.new.self c.self.inside.waiting c.self.inside.outstanding.entries) [
      | Ok done ↦ λ joined left. rw joined (session-joined c.self.inside.queue c.args.messages.now.items (λ (m : Message). takes c.args.kinds m.kind) c.self.inside.waiting c.self.inside.outstanding.entries c.self.invariant c.requires)
      | Err why ↦ λ joined left. rw left c.self.invariant
    ] c.join.ensures.after c.join.ensures.err
