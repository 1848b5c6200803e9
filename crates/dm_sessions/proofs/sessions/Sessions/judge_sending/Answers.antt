use Rattle.std.proofs.Common.{◌≡◌, ◌∷◌, [], None, Some, true, sym, ap, subst, ◌∙◌, rules}
use Rattle.std.specs.Prelude.{MatchResult}
use Rattle.std.specs.Option.{option_copied}
use Rattle.hsm_types.specs.Refusals.{first_refusal}
use Rattle.hsm_types.specs.Sessions.{SessionTable, lives, session_of, dead_session, sending_refusal}
use Rattle.hsm_types.specs.declared.dm.DmRefusal.TheVariants.{NoSession}
use Rattle.dm_sessions.proofs.Lookups.{sending-is, sending-dead}
use Rattle.dm_sessions.proofs.sessions.Sessions.judge_sending.Goals as goal

pub returns-in-Some : goal.returns-in-Some
returns-in-Some c =
    let t : SessionTable = record { given = c.self.inside.given; live = c.self.inside.live.entries; unrouted = c.self.inside.unrouted.items } in
    let there : session_of c.args.target t ≡ Some c.in-Some.session.now = sym c.get.ensures.value ∙ ap option_copied c.in-Some.is in
    let alive : lives c.args.sid t ≡ true = search rules in
    subst (λ (x : SessionTable). MatchResult c.judge_message.result (λ _. first_refusal (dead_session c.args.sid x ∷ sending_refusal c.args.target c.args.body.now x ∷ []) ≡ None) (λ why. first_refusal (dead_session c.args.sid x ∷ sending_refusal c.args.target c.args.body.now x ∷ []) ≡ Some why)) c.self.view_is
    (subst (λ o. MatchResult c.judge_message.result (λ _. o ≡ None) (λ why. o ≡ Some why)) (sym (sending-is c.args.sid c.args.target c.args.body.now t c.in-Some.session.now alive there)) c.judge_message.ensures)

pub returns-in-None : goal.returns-in-None
returns-in-None c =
    let t : SessionTable = record { given = c.self.inside.given; live = c.self.inside.live.entries; unrouted = c.self.inside.unrouted.items } in
    let gone : session_of c.args.target t ≡ None = sym c.get.ensures.value ∙ ap option_copied c.in-None.is in
    let alive : lives c.args.sid t ≡ true = search rules in
    subst (λ (x : SessionTable). first_refusal (dead_session c.args.sid x ∷ sending_refusal c.args.target c.args.body.now x ∷ []) ≡ Some NoSession) c.self.view_is (sending-dead c.args.sid c.args.target c.args.body.now t alive gone)
