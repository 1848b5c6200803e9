use Rattle.std.proofs.Common.{◌≡◌, ◌+◌, subst}
use Rattle.std.specs.Prelude.{is_some, if◌then◌else◌}
use Rattle.hsm_types.specs.Callers.{IsCallerNumber}
use Rattle.dm_service.specs.Tables.{Tables, awaited_in}
use Rattle.dm_service.proofs.Parked.{may_wait_again, ended_count}
use Rattle.dm_service.proofs.service.DmService.end.Goals.{After-end}
use Rattle.dm_service.proofs.service.DmService.end.Goals as goal

abbrev before : After-end → Tables
before c = record { sessions = c.self.inside.sessions; tokens = c.self.inside.tokens; rights = c.self.inside.rights; park = c.self.inside.park }

pub returns-clause-may_wait : goal.returns-clause-may_wait
returns-clause-may_wait c = may_wait_again (before c) c.args.caller c.end.new.self c.self.invariant.ordered c.end.ensures.park c.end.ensures.after c.end.result c.end.ensures.access

pub returns-clause-counted : goal.returns-clause-counted
returns-clause-counted c =
    subst (λ (t : Tables). awaited_in (record { sessions = c.self.inside.sessions; tokens = c.self.inside.tokens; rights = c.self.inside.rights; park = c.end.new.self }) + (if is_some c.end.result then 1 else 0) ≡ awaited_in t) c.self.view_is
    (ended_count (before c) c.args.caller c.end.new.self c.end.result (subst IsCallerNumber c.number-number.ensures.number c.number-number.ensures.within) c.end.ensures.access c.end.ensures.after)
