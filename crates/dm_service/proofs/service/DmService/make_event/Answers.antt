use Rattle.std.proofs.Common.{◌≡◌, ◌+◌, ◌≤◌, List, ℕ, None, Ok, refl, ◌∙◌, ap, subst, arith}
use Rattle.std.specs.declared.alloc.AllocError.{AllocError}
use Rattle.hsm_types.specs.Sessions.{user_event}
use Rattle.hsm_types.specs.declared.keys.Token.{Token}
use Rattle.hsm_types.specs.declared.dm.DmCall.TheVariants.{CreateUserEvent}
use Rattle.hsm_types.specs.declared.dm.DmReply.TheVariants as reply
use Rattle.plain_model.specs.State.{noted}
use Rattle.plain_model.specs.Services.{dm_judged, dm_state_where}
use Rattle.dm_service.specs.Tables.{Tables, awaited_in, seen, AreKept, is_open}
use Rattle.dm_service.specs.Services.{any_superblock, IsServedByTables}
use Rattle.dm_service.proofs.Awaiting.{few_open}
use Rattle.dm_service.proofs.Served.{made_by, event_served}
use Rattle.dm_service.proofs.service.DmService.make_event.Goals.{In-Ok}
use Rattle.dm_service.proofs.service.DmService.make_event.Goals as goal

abbrev before : In-Ok → Tables
before c = record { sessions = c.self.inside.sessions; tokens = c.self.inside.tokens; rights = c.self.inside.rights; park = c.self.inside.park }

abbrev after : In-Ok → Tables
after c = record { sessions = c.user.new.self; tokens = c.in_ok-token.token.0; rights = c.self.inside.rights; park = c.self.inside.park }

pub overflow_add-self : goal.overflow_add-self
overflow_add-self c = omega (arith, few_open c.self.inside.tokens (is_open c.self.inside.sessions), c.self.invariant.counted, c.self.invariant.few)

none : (c : In-Ok) → dm_judged any_superblock (seen (before c)) c.args.sid (CreateUserEvent c.args.body.now) ≡ None
none c = subst (λ (body : List ℕ). dm_judged any_superblock (seen (before c)) c.args.sid (CreateUserEvent body) ≡ None) c.in_ok-copy.ensures.cases c.in-Ok.ensures.ok

left : (c : In-Ok)
    → (noted (seen (after c)) ≡ dm_state_where None any_superblock (seen (before c)) c.args.sid (CreateUserEvent c.args.body.now)) × AreKept (after c) (c.self.inside.open_tokens + 1) × (awaited_in (after c) ≡ awaited_in (before c) + 1)
left c =
    let is : c.in_ok-token.token ≡ record { 0 = c.self.inside.tokens + 1 } = c.in_ok-token.ensures.next in
    made_by (before c) c.self.inside.open_tokens c.self.invariant c.args.sid c.args.body.now (none c) (after c)
    (c.in-Ok.ensures.after ∙ (λ i. user_event c.args.sid (is i) (c.in_ok-copy.ensures.cases i) c.self.inside.sessions))
    (ap (λ (t : Token). t.0) is) (rw is c.in_ok-token.ensures.few) refl refl

pub invariant_of-self : goal.invariant_of-self
invariant_of-self c = (left (goal.at.invariant_of-self c).In-Ok).1

pub returns-in-Ok-clause-served : goal.returns-in-Ok-clause-served
returns-in-Ok-clause-served c =
    let at = (goal.at.returns-in-Ok-clause-served c).In-Ok in
    subst (λ (t : Tables). IsServedByTables {E = AllocError} t c.args.sid (CreateUserEvent c.args.body.now) (Ok (reply.Token c.in_ok-token.token, reply.Token c.in_ok-token.token)) (after at)) c.self.view_is
    (event_served (before at) (after at) c.args.sid c.args.body.now c.in_ok-token.token c.in_ok-token.ensures.next (none at) (left at).0)

pub returns-in-Ok-clause-room : goal.returns-in-Ok-clause-room
returns-in-Ok-clause-room c =
    let at = (goal.at.returns-in-Ok-clause-room c).In-Ok in
    let more = (left at).2 in
    subst (λ (t : Tables). awaited_in (after at) ≤ awaited_in t + 1) c.self.view_is (omega (arith, more))
