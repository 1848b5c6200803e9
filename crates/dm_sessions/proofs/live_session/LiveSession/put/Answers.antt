use Rattle.std.proofs.Common.{◌≡◌, ◌++◌, ◌∷◌, [], ap, sym, ◌∙◌, rules}
use Rattle.std.specs.Prelude.{count_by}
use Rattle.std.specs.Map.{values_of}
use Rattle.indexmap.specs.IndexMap.{insert_entry}
use Rattle.indexmap.proofs.CallerLemmas.{insert_entry-new}
use Rattle.hsm_types.specs.Messages.{has_token}
use Rattle.hsm_types.specs.Sessions.{LiveSession, put_message}
use Rattle.dm_sessions.specs.Moves.{same_token}
use Rattle.dm_sessions.specs.Tables.{in_order}
use Rattle.dm_sessions.proofs.Moves.{absent}
use Rattle.dm_sessions.proofs.InOrder.{count-in_order, in_order-push}
use Rattle.dm_sessions.proofs.OneSession.{session-put, own-keys}
use Rattle.dm_sessions.proofs.live_session.LiveSession.put.Goals as goal

none : (c : goal.Joined-branch-2) → count_by (has_token c.args.message.token) (values_of c.self.inside.outstanding.entries) ≡ 0
none c = sym (count-in_order (has_token c.args.message.token) c.self.inside.outstanding.entries) ∙ ap (λ (s : LiveSession). count_by (has_token c.args.message.token) s.outstanding) c.self.view_is ∙ c.requires.absent

placed : (c : goal.Joined-branch-2) → c.insert.new.self.entries ≡ c.self.inside.outstanding.entries ++ (c.args.message.token, c.args.message) ∷ []
placed c =
    let inserted : c.insert.new.self.entries ≡ insert_entry same_token c.self.inside.outstanding.entries c.args.message.token c.args.message = search rules in
    inserted ∙ insert_entry-new same_token c.self.inside.outstanding c.args.message.token c.args.message (absent c.args.message.token c.self.inside.outstanding.entries (own-keys c.self.inside.outstanding.entries c.self.invariant.kept) (none c))

pub invariant_of-self-2 : goal.invariant_of-self-2
invariant_of-self-2 c = rw (placed c) (session-put c.self.inside.queue c.self.inside.waiting c.self.inside.outstanding.entries c.args.message c.self.invariant c.requires.message c.requires.token (none c))

pub returns-clause-after : goal.returns-clause-after
returns-clause-after c =
    let put : in_order c.insert.new.self.entries ≡ put_message (in_order c.self.inside.outstanding.entries) c.args.message = ap in_order (placed c) ∙ in_order-push c.self.inside.outstanding.entries c.args.message in
    rw (← c.self.view_is) (λ i. record { info = c.self.inside.info; kinds = c.self.inside.kinds; queue = c.self.inside.queue; outstanding = put i })
