use Rattle.std.proofs.Common.{◌≡◌, ◌≤◌, ◌<◌, ◌+◌, ◌++◌, length, take, ap, sym, subst, ◌∙◌, arith}
use Rattle.std.specs.Prelude.{count_by}
use Rattle.hsm_types.specs.Messages.{has_token, no_token}
use Rattle.hsm_types.specs.Sessions.{LiveSession, with_tokens, places_in, hands_out, put_messages}
use Rattle.hsm_types.specs.declared.keys.Token.{Token}
use Rattle.dm_sessions.specs.Moves.{keyed}
use Rattle.dm_sessions.specs.Tables.{in_order, users_of}
use Rattle.dm_sessions.proofs.InOrder.{in_order-keyed}
use Rattle.dm_sessions.proofs.OneSession.{users-handed, tokened, handed-apart, session-handed}
use Rattle.dm_sessions.proofs.live_session.LiveSession.deliver.Goals as goal

pub hand_out-requires-clause-within : goal.hand_out-requires-clause-within
hand_out-requires-clause-within c =
    let long : length c.self.inside.queue ≡ length c.args.self.now.queue = ap (λ (s : LiveSession). length s.queue) c.self.view_is in
    omega arith

pub hand_out-requires-clause-room : goal.hand_out-requires-clause-room
hand_out-requires-clause-room c =
    let long : length c.self.inside.queue ≡ length c.args.self.now.queue = ap (λ (s : LiveSession). length s.queue) c.self.view_is in
    let room = c.in_ok-reserve.ensures.ok in
    let over : c.count_without_token-over.result ≡ count_by (has_token no_token) (take c.args.count c.self.inside.queue) = c.count_without_token-over.ensures ∙ ap (λ l. count_by (has_token no_token) (take c.args.count l)) c.as_slice.ensures in
    omega (arith, room, over, tokened c.self.inside.queue c.args.count (omega arith))

pub hand_out-requires-clause-apart : goal.hand_out-requires-clause-apart
hand_out-requires-clause-apart c =
    let once : (u : Token) → 0 < u.0 → count_by (has_token u) c.self.inside.queue + count_by (has_token u) (in_order c.self.inside.outstanding.entries) ≤ 1 = subst (λ (s : LiveSession). (u : Token) → 0 < u.0 → places_in u s ≤ 1) (sym c.self.view_is) c.requires.once in
    rw c.reserve.ensures.entries (handed-apart c.self.inside.queue c.self.inside.outstanding.entries once)

pub invariant_of-self-2 : goal.invariant_of-self-2
invariant_of-self-2 c =
    let once : (u : Token) → 0 < u.0 → count_by (has_token u) c.self.inside.queue + count_by (has_token u) (in_order c.self.inside.outstanding.entries) ≤ 1 = subst (λ (s : LiveSession). (u : Token) → 0 < u.0 → places_in u s ≤ 1) (sym c.self.view_is) c.requires.once in
    let held : c.hand_out.new.outstanding.entries ≡ c.self.inside.outstanding.entries ++ keyed (with_tokens (take c.args.count c.self.inside.queue)) =
    c.hand_out.ensures.held ∙ (λ i. c.reserve.ensures.entries i ++ keyed (with_tokens (take c.args.count c.self.inside.queue))) in
    let over : c.count_without_token-over.result ≡ count_by (has_token no_token) (take c.args.count c.self.inside.queue) = c.count_without_token-over.ensures ∙ ap (λ l. count_by (has_token no_token) (take c.args.count l)) c.as_slice.ensures in
    rw (c.hand_out.ensures.left, held)
    (session-handed c.self.inside.queue c.self.inside.waiting c.count_without_token-over.result c.self.inside.outstanding.entries c.args.count c.self.invariant over (handed-apart c.self.inside.queue c.self.inside.outstanding.entries once))

pub returns-clause-after : goal.returns-clause-after
returns-clause-after c =
    let held : in_order c.hand_out.new.outstanding.entries ≡ put_messages (in_order c.self.inside.outstanding.entries) (with_tokens (take c.args.count c.self.inside.queue)) =
    ap in_order (c.hand_out.ensures.held ∙ (λ i. c.reserve.ensures.entries i ++ keyed (with_tokens (take c.args.count c.self.inside.queue))))
    ∙ in_order-keyed c.self.inside.outstanding.entries (with_tokens (take c.args.count c.self.inside.queue)) in
    rw (← c.self.view_is) (λ i. record { info = c.self.inside.info; kinds = c.self.inside.kinds; queue = c.hand_out.ensures.left i; outstanding = held i })

pub returns-clause-users : goal.returns-clause-users
returns-clause-users c =
    ap users_of (returns-clause-after c)
    ∙ subst (λ (s : LiveSession). users_of (hands_out c.args.count s) ≡ users_of s) c.self.view_is (users-handed c.self.inside.queue (in_order c.self.inside.outstanding.entries) c.args.count c.self.invariant.queued)
