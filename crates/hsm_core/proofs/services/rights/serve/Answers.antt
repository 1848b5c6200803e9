use Rattle.std.proofs.Common.{◌≡◌, None, refl, sym, subst}
use Rattle.hsm_types.specs.Rights.{right_of, too_low, conflict, busy, with_right}
use Rattle.hsm_types.specs.Calls.{scope_of}
use Rattle.hsm_types.specs.declared.dm.DmCall.{DmCall}
use Rattle.hsm_types.specs.declared.dm.DmCall.TheVariants.{UpgradeRight, DowngradeRight}
use Rattle.hsm_types.specs.declared.dm.Right.TheVariants.{Shared, Excl}
use Rattle.hsm_core.specs.Services.{HasRight, IsGranted}
use Rattle.hsm_core.proofs.Serving.{granted_by, upgrade_judged, downgrade_judged}
use Rattle.hsm_core.proofs.services.rights.serve.Goals as goal

pub returns-in-UpgradeRight-clause-granted : goal.returns-in-UpgradeRight-clause-granted
returns-in-UpgradeRight-clause-granted c =
    let held : too_low Shared (right_of c.in-UpgradeRight.token c.in-UpgradeRight.handle.key c.args.service.now.rights) ≡ None = subst (λ (call : DmCall). HasRight c.args.service.now.rights (scope_of call)) c.in-UpgradeRight.is c.requires.held in
    subst (λ (call : DmCall). IsGranted c.args.service.now call c.ended-in-UpgradeRight.result c.upgrade.new.self) (sym c.in-UpgradeRight.is)
    (granted_by c.args.service.now c.upgrade.new.self (UpgradeRight c.in-UpgradeRight.token c.in-UpgradeRight.handle) (with_right c.in-UpgradeRight.token c.in-UpgradeRight.handle.key Excl) c.upgrade.result c.ended-in-UpgradeRight.result refl refl
    (upgrade_judged c.upgrade.result (too_low Shared (right_of c.in-UpgradeRight.token c.in-UpgradeRight.handle.key c.args.service.now.rights)) (busy (conflict c.in-UpgradeRight.handle.key Excl c.in-UpgradeRight.token c.args.service.now.rights)) held c.upgrade.ensures.judged)
    c.upgrade.ensures.after c.upgrade.ensures.err c.ended-in-UpgradeRight.ensures.replies c.ended-in-UpgradeRight.ensures.other c.ended-in-UpgradeRight.ensures.memory)

pub returns-in-DowngradeRight-clause-granted : goal.returns-in-DowngradeRight-clause-granted
returns-in-DowngradeRight-clause-granted c =
    let held : too_low Excl (right_of c.in-DowngradeRight.token c.in-DowngradeRight.handle.key c.args.service.now.rights) ≡ None = subst (λ (call : DmCall). HasRight c.args.service.now.rights (scope_of call)) c.in-DowngradeRight.is c.requires.held in
    subst (λ (call : DmCall). IsGranted c.args.service.now call c.ended-in-DowngradeRight.result c.downgrade.new.self) (sym c.in-DowngradeRight.is)
    (granted_by c.args.service.now c.downgrade.new.self (DowngradeRight c.in-DowngradeRight.token c.in-DowngradeRight.handle) (with_right c.in-DowngradeRight.token c.in-DowngradeRight.handle.key Shared) c.downgrade.result c.ended-in-DowngradeRight.result refl refl
    (downgrade_judged c.downgrade.result (too_low Excl (right_of c.in-DowngradeRight.token c.in-DowngradeRight.handle.key c.args.service.now.rights)) held c.downgrade.ensures.judged)
    c.downgrade.ensures.after c.downgrade.ensures.err c.ended-in-DowngradeRight.ensures.replies c.ended-in-DowngradeRight.ensures.other c.ended-in-DowngradeRight.ensures.memory)
