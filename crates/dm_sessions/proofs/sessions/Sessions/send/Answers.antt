use Rattle.std.proofs.Common.{◌≡◌, ◌∷◌, [], None, rules}
use Rattle.hsm_types.specs.Refusals.{first_refusal}
use Rattle.hsm_types.specs.Messages.{no_token, user_message}
use Rattle.hsm_types.specs.Sessions.{SessionTable, queued, change_live, dead_session, sending_refusal}
use Rattle.dm_sessions.proofs.Lookups.{sending-alive, table-sent}
use Rattle.dm_sessions.proofs.sessions.Sessions.send.Goals as goal

pub invariant_of-self-2 : goal.invariant_of-self-2
invariant_of-self-2 c =
    let t : SessionTable = record { given = c.self.inside.given; live = c.self.inside.live.entries; unrouted = c.self.inside.unrouted.items } in
    let none : first_refusal (dead_session c.args.sid t ∷ sending_refusal c.args.target c.args.body t ∷ []) ≡ None = search rules in
    let after : c.push.new.live.entries ≡ change_live c.args.target (queued (user_message no_token c.args.body ∷ [])) c.self.inside.live.entries = search rules in
    rw after (table-sent c.args.target c.args.body t c.self.inside.user_tokens c.self.invariant (sending-alive c.args.sid c.args.target c.args.body t none))
