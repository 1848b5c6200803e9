use Rattle.std.proofs.Common.{◌≡◌, sym, subst, ◌∷◌, [], None, rules}
use Rattle.hsm_types.specs.Refusals.{first_refusal}
use Rattle.hsm_types.specs.Messages.{user_message}
use Rattle.hsm_types.specs.Sessions.{SessionTable, IsNewToken, put_message, change_live, dead_session, event_refusal}
use Rattle.dm_sessions.proofs.Lookups.{living, new-absent, table-user}
use Rattle.dm_sessions.proofs.sessions.Sessions.user.Goals as goal

pub put-requires-clause-absent : goal.put-requires-clause-absent
put-requires-clause-absent c =
    let t : SessionTable = record { given = c.self.inside.given; live = c.self.inside.live.entries; unrouted = c.self.inside.unrouted.items } in
    let fresh : IsNewToken c.args.token t = subst (IsNewToken c.args.token) (sym c.self.view_is) c.requires in
    rw c.user_message.ensures (new-absent c.args.token c.args.sid t fresh)

pub invariant_of-self-2 : goal.invariant_of-self-2
invariant_of-self-2 c =
    let t : SessionTable = record { given = c.self.inside.given; live = c.self.inside.live.entries; unrouted = c.self.inside.unrouted.items } in
    let fresh : IsNewToken c.args.token t = subst (IsNewToken c.args.token) (sym c.self.view_is) c.requires in
    let none : first_refusal (dead_session c.args.sid t ∷ event_refusal c.args.body t ∷ []) ≡ None = search rules in
    let after : c.put.new.live.entries ≡ change_live c.args.sid (λ s. record s { outstanding = put_message s.outstanding (user_message c.args.token c.args.body) }) c.self.inside.live.entries = search rules in
    rw after (table-user c.args.sid c.args.token c.args.body t c.self.inside.user_tokens c.self.invariant (living c.args.sid t (event_refusal c.args.body t ∷ []) none) fresh)
