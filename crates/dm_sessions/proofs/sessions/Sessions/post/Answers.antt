use Rattle.std.proofs.Common.{◌≡◌, None, Some, sym, ap, subst, ◌∙◌}
use Rattle.hsm_types.specs.Sessions.{SessionTable, IsNewToken, taker, posted_to}
use Rattle.dm_sessions.specs.Tables.{IsTable}
use Rattle.dm_sessions.proofs.Lookups.{taker-lives, access-event, table-posted}
use Rattle.dm_sessions.proofs.sessions.Sessions.post.Goals as goal

pub push-requires-clause-lives : goal.push-requires-clause-lives
push-requires-clause-lives c =
    let t : SessionTable = record { given = c.self.inside.given; live = c.self.inside.live.entries; unrouted = c.self.inside.unrouted.items } in
    taker-lives c.args.message.kind c.in-Some.sid t (ap (taker c.args.message.kind) c.self.view_is ∙ sym c.taker.ensures ∙ c.in-Some.is)

pub invariant_of-self : goal.invariant_of-self
invariant_of-self c =
    let t : SessionTable = record { given = c.self.inside.given; live = c.self.inside.live.entries; unrouted = c.self.inside.unrouted.items } in
    let there : taker c.args.message.kind t ≡ Some c.in-Some.sid = ap (taker c.args.message.kind) c.self.view_is ∙ sym c.taker.ensures ∙ c.in-Some.is in
    let fresh : IsNewToken c.args.message.token t = subst (IsNewToken c.args.message.token) (sym c.self.view_is) c.requires.token in
    rw c.in_ok-push-in-Some.ensures.after
    (subst (λ o. IsTable (posted_to o c.args.message t) c.self.inside.user_tokens) there (table-posted c.args.message t c.self.inside.user_tokens c.self.invariant (access-event c.args.message c.requires.message c.requires.access) fresh))

pub invariant_of-self-in-Continue-branch-2 : goal.invariant_of-self-in-Continue-branch-2
invariant_of-self-in-Continue-branch-2 c =
    let t : SessionTable = record { given = c.self.inside.given; live = c.self.inside.live.entries; unrouted = c.self.inside.unrouted.items } in
    let none : taker c.args.message.kind t ≡ None = ap (taker c.args.message.kind) c.self.view_is ∙ sym c.taker.ensures ∙ c.in-None.is in
    let fresh : IsNewToken c.args.message.token t = subst (IsNewToken c.args.message.token) (sym c.self.view_is) c.requires.token in
    rw c.in_ok-push_back-in-None.ensures.items
    (subst (λ o. IsTable (posted_to o c.args.message t) c.self.inside.user_tokens) none (table-posted c.args.message t c.self.inside.user_tokens c.self.invariant (access-event c.args.message c.requires.message c.requires.access) fresh))
