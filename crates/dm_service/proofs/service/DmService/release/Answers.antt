use Rattle.dm_service.specs.Tables.{Tables}
use Rattle.dm_service.proofs.Righted.{released_kept}
use Rattle.dm_service.proofs.service.DmService.release.Goals as goal

abbrev before : goal.After-release → Tables
before c = record { sessions = c.self.inside.sessions; tokens = c.self.inside.tokens; rights = c.self.inside.rights; park = c.self.inside.park }

pub invariant_of-self : goal.invariant_of-self
invariant_of-self c = rw c.release.ensures (released_kept (before c) c.self.inside.open_tokens c.self.invariant c.args.token c.args.key)
