use Rattle.std.proofs.Common.{◌≡◌, sym, ap, ◌∙◌, true, false, is_some}
use Rattle.std.specs.Map.Iter.{deref_pair}
use Rattle.std.proofs.lemmas.Map.Iter.{rest_more, rest_all}
use Rattle.std.specs.List.{find}
use Rattle.std.specs.Option.{option_map, option_copied}
use Rattle.hsm_types.specs.Sessions.{LiveSession, holds, outstanding_to}
use Rattle.hsm_types.specs.declared.keys.Sid.{Sid}
use Rattle.dm_sessions.proofs.Lookups.{find-hit, find-miss, find-end, found-held}
use Rattle.dm_sessions.proofs.sessions.Sessions.find.Goals as goal

pub loop-session-init : goal.loop-session-init
loop-session-init c = rw (← c.self.view_is) (ap (find (λ (s : Sid × LiveSession). holds c.args.token s.1)) (sym (c.into_iter-session-iterator.ensures.into_iter_gives ∙ c.iter-session-items.ensures.rest)))

pub returns-in-Some-message-clause-found : goal.returns-in-Some-message-clause-found
returns-in-Some-message-clause-found c =
    let own : holds c.args.token c.in-Some.session.now ≡ true = found-held c.args.token c.in-Some.session.now (option_copied c.message.result) c.message.ensures.found ∙ ap (λ o. is_some (option_copied o)) c.in-Some-message.is in
    ap option_copied (sym c.in-Some-message.is) ∙ c.message.ensures.found
    ∙ sym (ap (λ f. outstanding_to (option_map (λ (s : Sid × LiveSession). s.1) f) c.args.token) (find-hit (λ (s : Sid × LiveSession). holds c.args.token s.1) c.args.self.now.live c.loop-session.session-iterator c.next.new.self c.loop-session.invariant (c.in-Some.field-0-0.now, c.in-Some.session.now) (rest_more deref_pair c.loop-session.session-iterator c.next.new.self c.next.result (c.in-Some.field-0-0, c.in-Some.session) c.in-Some.is c.next.ensures.steps) own))

pub loop-session-preserved : goal.loop-session-preserved
loop-session-preserved c =
    let lacks : holds c.args.token c.in-Some.session.now ≡ false = found-held c.args.token c.in-Some.session.now (option_copied c.message.result) c.message.ensures.found ∙ ap (λ o. is_some (option_copied o)) c.in_default.is in
    find-miss (λ (s : Sid × LiveSession). holds c.args.token s.1) c.args.self.now.live c.loop-session.session-iterator c.next.new.self c.loop-session.invariant (c.in-Some.field-0-0.now, c.in-Some.session.now) (rest_more deref_pair c.loop-session.session-iterator c.next.new.self c.next.result (c.in-Some.field-0-0, c.in-Some.session) c.in-Some.is c.next.ensures.steps) lacks

pub returns-clause-found : goal.returns-clause-found
returns-clause-found c = sym (ap (λ f. outstanding_to (option_map (λ (s : Sid × LiveSession). s.1) f) c.args.token) (find-end (λ (s : Sid × LiveSession). holds c.args.token s.1) c.args.self.now.live c.loop-session.session-iterator c.next.new.self c.loop-session.invariant (rest_all deref_pair c.loop-session.session-iterator c.next.new.self c.next.result c.in-None.is c.next.ensures.steps)))
