use Rattle.std.proofs.Common.{sym, subst}
use Rattle.hsm_system.specs.Systems as alone
use Rattle.hsm_system.specs.Systems.{System}
use Rattle.hsm_replay.specs.Systems.{IsRun}
use Rattle.hsm_replay.proofs.Between.{refreshed_is_run}
use Rattle.hsm_replay.proofs.Stepped.{of_system}
use Rattle.hsm_replay.proofs.Deeds.{refreshed_by}
use Rattle.hsm_replay.proofs.replay.Replay.refresh.Goals as goal

pub returns-clause-refreshed : goal.returns-clause-refreshed
returns-clause-refreshed g c = of_system (record { system = c.self.inside.system; drives = c.self.inside.drives.items }) c.args.self.now c.self.view_is alone.refreshed c.refresh.new.self c.refresh.ensures.refreshed

pub invariant_of-self : goal.invariant_of-self
invariant_of-self g c = subst (λ (s : System g.row.D.Denot). IsRun {D = g.row.D.Denot} {M = g.row.M.Denot} (record { system = s; drives = c.self.inside.drives.items })) (sym c.refresh.ensures.refreshed)
    (refreshed_is_run (record { system = c.self.inside.system; drives = c.self.inside.drives.items }) c.self.invariant)

pub returns-clause-deeds : goal.returns-clause-deeds
returns-clause-deeds g c = refreshed_by g.M.Drive (record { system = c.self.inside.system; drives = c.self.inside.drives.items }) c.args.self.now c.self.view_is c.refresh.new.self c.refresh.ensures.deeds
