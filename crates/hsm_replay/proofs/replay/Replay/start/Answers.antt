use Rattle.std.proofs.Common.{sym, subst}
use Rattle.hsm_system.specs.Systems as alone
use Rattle.hsm_system.specs.Systems.{System}
use Rattle.hsm_replay.specs.Systems.{IsRun}
use Rattle.hsm_replay.proofs.Between.{started_is_run}
use Rattle.hsm_replay.proofs.Stepped.{of_system}
use Rattle.hsm_replay.proofs.Deeds.{started_by}
use Rattle.hsm_replay.proofs.replay.Replay.start.Goals as goal

pub returns-clause-started : goal.returns-clause-started
returns-clause-started g c = of_system (record { system = c.self.inside.system; drives = c.self.inside.drives.items }) c.args.self.now c.self.view_is (alone.started c.args.daemon) c.start.new.self c.start.ensures.started

pub invariant_of-self : goal.invariant_of-self
invariant_of-self g c = subst (λ (s : System g.row.D.Denot). IsRun {D = g.row.D.Denot} {M = g.row.M.Denot} (record { system = s; drives = c.self.inside.drives.items })) (sym c.start.ensures.started)
    (started_is_run c.args.daemon (record { system = c.self.inside.system; drives = c.self.inside.drives.items }) c.self.invariant)

pub returns-clause-deeds : goal.returns-clause-deeds
returns-clause-deeds g c = started_by g.M.Drive c.args.daemon (record { system = c.self.inside.system; drives = c.self.inside.drives.items }) c.args.self.now c.self.view_is c.start.new.self c.start.ensures.deeds
