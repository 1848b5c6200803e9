use Rattle.std.proofs.Common.{◌≡◌, Option, Some, sym, ◌∙◌, subst}
use Rattle.std.specs.Prelude.{IfSome}
use Rattle.access_park.specs.declared.access.Access.{Access}
use Rattle.dm_service.specs.Tables.{seen, waiting}
use Rattle.dm_service.specs.Parking.{with_access, blocked}
use Rattle.dm_service.proofs.Parked.{blocked_again}
use Rattle.dm_service.proofs.service.DmService.block_again.Goals as goal

pub returns-clause-after : goal.returns-clause-after
returns-clause-after c =
    let was : waiting c.args.self.now c.args.caller ≡ Some c.unwrap-access.result = sym c.end.ensures.access ∙ c.unwrap-access.ensures in
    subst (λ (p : Option Access). IfSome p (λ a. seen c.block.new.self ≡ with_access c.args.caller (Some (blocked a)) (seen c.args.self.now))) (sym was)
    (blocked_again c.args.self.now c.end.new.self c.block.new.self c.args.caller c.unwrap-access.result c.end.ensures.after c.block.ensures.after)
