use Rattle.std.proofs.Common.{◌≡◌, None, Some, subst}
use Rattle.hsm_types.specs.Refusals.{first_refusal}
use Rattle.hsm_types.specs.declared.dm.Scope.{Scope}
use Rattle.dm_service.specs.Services.{session_refusals}
use Rattle.dm_service.proofs.HandedOut.{refused_packed}
use Rattle.dm_service.proofs.Served.{told_inside, told_outside}
use Rattle.dm_service.proofs.calls.serve.Goals as goal

pub returns-in-Ok-clause-told : goal.returns-in-Ok-clause-told
returns-in-Ok-clause-told c =
    told_inside c.args.sessions.now c.args.sid c.args.call.now c.requires c.perform.result c.perform.new.sessions
    (subst (λ (scope : Scope). first_refusal (session_refusals c.args.sessions.now c.args.sid scope) ≡ None) c.scope.ensures c.in-Ok.ensures) c.perform.ensures.told

pub returns-in-Err-clause-told : goal.returns-in-Err-clause-told
returns-in-Err-clause-told c =
    told_outside c.args.sessions.now c.args.sid c.args.call.now c.requires c.in-Err.why c.refused.result
    (subst (λ (scope : Scope). first_refusal (session_refusals c.args.sessions.now c.args.sid scope) ≡ Some c.in-Err.why) c.scope.ensures c.in-Err.ensures) c.refused.ensures

pub returns-in-Err-clause-packed : goal.returns-in-Err-clause-packed
returns-in-Err-clause-packed c = refused_packed c.args.sessions.now c.args.sid c.args.call.now c.in-Err.why c.refused.result c.refused.ensures
