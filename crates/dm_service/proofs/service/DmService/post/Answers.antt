use Rattle.std.proofs.Common.{◌≡◌, ◌+◌, refl, sym, ◌∙◌, ap, subst, arith}
use Rattle.hsm_types.specs.Sessions.{posted}
use Rattle.hsm_types.specs.declared.keys.Token.{Token}
use Rattle.plain_model.specs.Accesses.{event_message}
use Rattle.dm_service.specs.Tables.{Tables, awaited_in, is_open, seen, AreKept}
use Rattle.dm_service.specs.Parking.{with_event, parked, MayWait}
use Rattle.dm_service.proofs.Awaiting.{few_open}
use Rattle.dm_service.proofs.Parked.{posted_by, may_wait_for}
use Rattle.dm_service.proofs.service.DmService.post.Goals.{In_ok-post_message}
use Rattle.dm_service.proofs.service.DmService.post.Goals as goal

abbrev before : In_ok-post_message → Tables
before c = record { sessions = c.self.inside.sessions; tokens = c.self.inside.tokens; rights = c.self.inside.rights; park = c.self.inside.park }

abbrev after : In_ok-post_message → Tables
after c = record { sessions = c.post_message.new.sessions; tokens = c.in_ok-token.token.0; rights = c.self.inside.rights; park = c.self.inside.park }

pub overflow_add-self : goal.overflow_add-self
overflow_add-self c = omega (arith, few_open c.self.inside.tokens (is_open c.self.inside.sessions), c.self.invariant.counted, c.self.invariant.few)

left : (c : In_ok-post_message) → (seen (after c) ≡ with_event c.args.kind c.args.handle c.args.told (seen (before c))) × AreKept (after c) (c.self.inside.open_tokens + 1) × (awaited_in (after c) ≡ awaited_in (before c) + 1)
left c =
    let is : c.in_ok-token.token ≡ record { 0 = c.self.inside.tokens + 1 } = c.in_ok-token.ensures.next in
    posted_by (before c) (after c) c.self.inside.open_tokens c.args.kind c.args.handle c.args.told c.self.invariant
    (c.in_ok-post_message.ensures.after ∙ (λ i. posted (event_message c.args.kind (is i) c.args.handle c.args.told) c.self.inside.sessions))
    (ap (λ (t : Token). t.0) is) (rw is c.in_ok-token.ensures.few) refl refl

pub invariant_of-self-2 : goal.invariant_of-self-2
invariant_of-self-2 c = (left (goal.at.invariant_of-self-2 c).In_ok-post_message).1

pub returns-clause-after : goal.returns-clause-after
returns-clause-after c =
    let at = (goal.at.returns-clause-after c).In_ok-post_message in
    subst (λ (t : Tables). seen (after at) ≡ with_event c.args.kind c.args.handle c.args.told (seen t)) c.self.view_is (left at).0

pub returns-clause-counted : goal.returns-clause-counted
returns-clause-counted c =
    let at = (goal.at.returns-clause-counted c).In_ok-post_message in
    subst (λ (t : Tables). awaited_in (after at) ≡ awaited_in t + 1) c.self.view_is (left at).2

pub returns-clause-may_wait : goal.returns-clause-may_wait
returns-clause-may_wait c access =
    let at = (goal.at.returns-clause-may_wait c).In_ok-post_message in
    subst (λ (t : Token). MayWait (after at) (parked c.args.kind t access)) (sym c.in_ok-token.ensures.next)
    (may_wait_for (before at) (after at) c.args.kind c.args.handle c.args.told access c.self.invariant.ordered (left at).0 refl)
