use Rattle.std.proofs.Common.{◌≡◌, ◌+◌, None, sym, subst}
use Rattle.hsm_types.specs.Callers.{IsCallerNumber}
use Rattle.dm_service.specs.Tables.{Tables, waiting, awaited_in}
use Rattle.dm_service.proofs.Parked.{parked_count}
use Rattle.dm_service.proofs.service.DmService.park.Goals as goal

pub returns-clause-counted : goal.returns-clause-counted
returns-clause-counted c =
    let before : Tables = record { sessions = c.self.inside.sessions; tokens = c.self.inside.tokens; rights = c.self.inside.rights; park = c.self.inside.park } in
    subst (λ (t : Tables). awaited_in (record before { park = c.park.new.self }) ≡ awaited_in t + 1) c.self.view_is
    (parked_count before c.args.caller c.park.new.self c.args.access (subst IsCallerNumber c.number-number.ensures.number c.number-number.ensures.within)
    (subst (λ (t : Tables). waiting t c.args.caller ≡ None) (sym c.self.view_is) c.requires.idle) c.park.ensures)
