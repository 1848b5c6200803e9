use Rattle.std.proofs.Common.{sym, ap, ◌∙◌, rules}
use Rattle.std.specs.Map.Iter.{deref_pair}
use Rattle.std.proofs.lemmas.Map.Iter.{rest_more, rest_all}
use Rattle.std.specs.List.{find}
use Rattle.std.specs.Option.{option_map}
use Rattle.hsm_types.specs.Sessions.{LiveSession, holds}
use Rattle.hsm_types.specs.declared.keys.Sid.{Sid}
use Rattle.dm_sessions.proofs.Lookups.{find-hit, find-miss, find-end}
use Rattle.dm_sessions.proofs.sessions.Sessions.owner.Goals as goal

pub loop-sid-init : goal.loop-sid-init
loop-sid-init c = rw (← c.self.view_is) (ap (find (λ (s : Sid × LiveSession). holds c.args.token s.1)) (sym (c.into_iter-sid-iterator.ensures.into_iter_gives ∙ c.iter-sid-items.ensures.rest)))

pub returns-then-holds : goal.returns-then-holds
returns-then-holds c = sym (ap (option_map (λ (s : Sid × LiveSession). s.0)) (find-hit (λ (s : Sid × LiveSession). holds c.args.token s.1) c.args.self.now.live c.loop-sid.sid-iterator c.next.new.self c.loop-sid.invariant (c.in-Some.sid.now, c.in-Some.session.now) (rest_more deref_pair c.loop-sid.sid-iterator c.next.new.self c.next.result (c.in-Some.sid, c.in-Some.session) c.in-Some.is c.next.ensures.steps) (search rules)))

pub loop-sid-preserved : goal.loop-sid-preserved
loop-sid-preserved c = find-miss (λ (s : Sid × LiveSession). holds c.args.token s.1) c.args.self.now.live c.loop-sid.sid-iterator c.next.new.self c.loop-sid.invariant (c.in-Some.sid.now, c.in-Some.session.now) (rest_more deref_pair c.loop-sid.sid-iterator c.next.new.self c.next.result (c.in-Some.sid, c.in-Some.session) c.in-Some.is c.next.ensures.steps) (search rules)

pub returns : goal.returns
returns c = sym (ap (option_map (λ (s : Sid × LiveSession). s.0)) (find-end (λ (s : Sid × LiveSession). holds c.args.token s.1) c.args.self.now.live c.loop-sid.sid-iterator c.next.new.self c.loop-sid.invariant (rest_all deref_pair c.loop-sid.sid-iterator c.next.new.self c.next.result c.in-None.is c.next.ensures.steps)))
