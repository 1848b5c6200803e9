use Rattle.std.proofs.Common.{subst}
use Rattle.hsm_types.specs.Rights.{bad_right}
use Rattle.dm_service.specs.Tables.{Tables}
use Rattle.dm_service.specs.Services.{Judges}
use Rattle.dm_service.proofs.service.DmService.allow.Goals as goal

pub returns : goal.returns
returns c = subst (λ (t : Tables). Judges c.allow.result (bad_right c.args.token c.args.key c.args.need t.rights)) c.self.view_is c.allow.ensures
