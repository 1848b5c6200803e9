use Rattle.std.proofs.Common.{◌≡◌, Option, Some, sym, ◌∙◌, subst}
use Rattle.std.specs.Prelude.{IfSome}
use Rattle.access_park.specs.declared.access.Access.{Access}
use Rattle.dm_service.specs.Tables.{seen, waiting}
use Rattle.dm_service.specs.Parking.{with_access, parked_on}
use Rattle.dm_service.proofs.Parked.{may_still_wait, parked_again}
use Rattle.dm_service.proofs.service.DmService.park_again.Goals as goal

pub park-requires-clause-may_wait : goal.park-requires-clause-may_wait
park-requires-clause-may_wait c =
    rw c.parked.ensures
    (may_still_wait c.post.new.self c.end.new.self c.args.caller c.args.kind c.in_ok-token.token c.unwrap-access.result c.unwrap-access.result (c.in_ok-token.ensures.may_wait c.unwrap-access.result) c.end.ensures.after c.end.ensures.park)

pub returns-clause-after : goal.returns-clause-after
returns-clause-after c =
    let was : waiting c.args.self.now c.args.caller ≡ Some c.unwrap-access.result = (λ i. sym c.in_ok-token.ensures.park i c.args.caller) ∙ sym c.end.ensures.access ∙ c.unwrap-access.ensures in
    subst (λ (p : Option Access). IfSome p (λ a. seen c.park.new.self ≡ parked_on c.args.caller a c.args.kind c.args.handle c.args.told (seen c.args.self.now))) (sym was)
    (parked_again c.args.self.now c.post.new.self c.end.new.self c.park.new.self c.args.caller c.args.kind c.args.handle c.args.told c.in_ok-token.token c.unwrap-access.result c.in_ok-token.ensures.token
    c.in_ok-token.ensures.after c.end.ensures.after (subst (λ (a : Access). seen c.park.new.self ≡ with_access c.args.caller (Some a) (seen c.end.new.self)) c.parked.ensures c.park.ensures.after))
