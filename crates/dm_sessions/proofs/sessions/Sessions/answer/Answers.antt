use Rattle.std.proofs.Common.{◌≡◌, ◌∷◌, [], None, Bool, true, false, refl, subst, ◌∙◌, arith, rules}
use mir.Val.{bool_byte}
use Rattle.std.specs.Prelude.{MatchOption}
use Rattle.hsm_types.specs.Refusals.{first_refusal}
use Rattle.hsm_types.specs.Sessions.{SessionTable, session_of, message_in, outstanding_or_none, is_of_user, dead_session, bad_token}
use Rattle.dm_sessions.proofs.Lookups.{one_if, living, enough-users, table-answered}
use Rattle.dm_sessions.proofs.sessions.Sessions.answer.Goals as goal

counts : (b : Bool) → bool_byte b ≡ one_if b
counts true = refl
counts false = refl

pub overflow_sub-self : goal.overflow_sub-self
overflow_sub-self c =
    let t : SessionTable = record { given = c.self.inside.given; live = c.self.inside.live.entries; unrouted = c.self.inside.unrouted.items } in
    let none : first_refusal (dead_session c.args.sid t ∷ bad_token c.args.sid c.args.token t ∷ []) ≡ None = search rules in
    let alive = living c.args.sid t (bad_token c.args.sid c.args.token t ∷ []) none in
    let own : MatchOption (message_in c.args.token (outstanding_or_none (session_of c.args.sid t))) (c.is_user_event.result ≡ false) (λ m. c.is_user_event.result ≡ is_of_user m.kind) =
    subst (λ o. MatchOption o (c.is_user_event.result ≡ false) (λ m. c.is_user_event.result ≡ is_of_user m.kind)) c.take_out-message.ensures.found c.is_user_event.ensures in
    let enough = enough-users c.args.sid c.args.token t c.self.inside.user_tokens c.is_user_event.result c.self.invariant alive c.take_out-message.ensures.apart own in
    omega (arith, c.from.ensures ∙ counts c.is_user_event.result)

pub invariant_of-self : goal.invariant_of-self
invariant_of-self c =
    let t : SessionTable = record { given = c.self.inside.given; live = c.self.inside.live.entries; unrouted = c.self.inside.unrouted.items } in
    let none : first_refusal (dead_session c.args.sid t ∷ bad_token c.args.sid c.args.token t ∷ []) ≡ None = search rules in
    let alive = living c.args.sid t (bad_token c.args.sid c.args.token t ∷ []) none in
    let own : MatchOption (message_in c.args.token (outstanding_or_none (session_of c.args.sid t))) (c.is_user_event.result ≡ false) (λ m. c.is_user_event.result ≡ is_of_user m.kind) =
    subst (λ o. MatchOption o (c.is_user_event.result ≡ false) (λ m. c.is_user_event.result ≡ is_of_user m.kind)) c.take_out-message.ensures.found c.is_user_event.ensures in
    let count : c.from.result ≡ one_if c.is_user_event.result = c.from.ensures ∙ counts c.is_user_event.result in
    rw (c.take_out-message.ensures.after, count) (table-answered c.args.sid c.args.token t c.self.inside.user_tokens c.is_user_event.result c.self.invariant alive c.take_out-message.ensures.apart own)
