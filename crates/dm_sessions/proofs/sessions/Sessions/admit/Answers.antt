use Rattle.std.proofs.Common.{◌≡◌, ◌∷◌, [], None, Some, sym, ap, subst, ◌∙◌, rules}
use Rattle.std.specs.Option.{option_copied}
use Rattle.hsm_types.specs.Refusals.{first_refusal}
use Rattle.hsm_types.specs.Sessions.{SessionTable, session_of, owner, dead_session, bad_token}
use Rattle.hsm_types.specs.declared.dm.DmRefusal.TheVariants.{NotYours}
use Rattle.dm_sessions.proofs.Lookups.{admitted, of-another}
use Rattle.dm_sessions.proofs.sessions.Sessions.admit.Goals as goal

pub returns-then-holds : goal.returns-then-holds
returns-then-holds c =
    let t : SessionTable = record { given = c.self.inside.given; live = c.self.inside.live.entries; unrouted = c.self.inside.unrouted.items } in
    let there : session_of c.args.sid t ≡ Some c.in-Some.session.now = sym c.get.ensures.value ∙ ap option_copied c.in-Some.is in
    subst (λ (x : SessionTable). first_refusal (dead_session c.args.sid x ∷ bad_token c.args.sid c.args.token x ∷ []) ≡ None) c.self.view_is
    (admitted c.args.sid c.args.token t c.self.inside.user_tokens c.in-Some.session.now c.self.invariant there (sym c.holds.ensures.held ∙ c.if-holds.true) (c.holds.ensures.token c.if-holds.true))

pub returns-in-Some-owner : goal.returns-in-Some-owner
returns-in-Some-owner c =
    let t : SessionTable = record { given = c.self.inside.given; live = c.self.inside.live.entries; unrouted = c.self.inside.unrouted.items } in
    let there : session_of c.args.sid t ≡ Some c.in-Some.session.now = sym c.get.ensures.value ∙ ap option_copied c.in-Some.is in
    let has : owner c.args.token t ≡ Some c.in-Some-owner.owner = search rules in
    subst (λ (x : SessionTable). first_refusal (dead_session c.args.sid x ∷ bad_token c.args.sid c.args.token x ∷ []) ≡ Some (NotYours c.in-Some-owner.owner)) c.self.view_is
    (of-another c.args.sid c.in-Some-owner.owner c.args.token t c.self.inside.user_tokens c.in-Some.session.now c.self.invariant there (sym c.holds.ensures.held ∙ c.if-holds.false) has)
