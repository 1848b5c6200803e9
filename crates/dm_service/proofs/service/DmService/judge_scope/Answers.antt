use Rattle.std.proofs.Common.{subst}
use Rattle.std.specs.Prelude.{OnOk}
use Rattle.dm_service.specs.Tables.{Tables}
use Rattle.dm_service.specs.Services.{HasOpenToken}
use Rattle.dm_service.proofs.Righted.{open_in_scope}
use Rattle.dm_service.proofs.service.DmService.judge_scope.Goals as goal

pub returns-clause-open : goal.returns-clause-open
returns-clause-open c =
    let before : Tables = record { sessions = c.self.inside.sessions; tokens = c.self.inside.tokens; rights = c.self.inside.rights; park = c.self.inside.park } in
    subst (λ (t : Tables). OnOk c.judge_scope.result (HasOpenToken t.sessions c.args.scope)) c.self.view_is
    (open_in_scope before c.args.sid c.args.scope c.judge_scope.result c.self.invariant.ordered c.judge_scope.ensures)
