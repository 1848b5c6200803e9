use Rattle.std.proofs.Common.{sym, subst}
use Rattle.hsm_system.specs.Systems as alone
use Rattle.hsm_system.specs.Systems.{System}
use Rattle.hsm_replay.specs.Systems.{IsRun}
use Rattle.hsm_replay.proofs.Between.{killed_is_run}
use Rattle.hsm_replay.proofs.Stepped.{of_system}
use Rattle.hsm_replay.proofs.Deeds.{killed_by}
use Rattle.hsm_replay.proofs.replay.Replay.kill.Goals as goal

pub returns-clause-killed : goal.returns-clause-killed
returns-clause-killed g c = of_system (record { system = c.self.inside.system; drives = c.self.inside.drives.items }) c.args.self.now c.self.view_is (alone.killed c.args.daemon) c.kill.new.self c.kill.ensures.killed

pub invariant_of-self : goal.invariant_of-self
invariant_of-self g c = subst (λ (s : System g.row.D.Denot). IsRun {D = g.row.D.Denot} {M = g.row.M.Denot} (record { system = s; drives = c.self.inside.drives.items })) (sym c.kill.ensures.killed)
    (killed_is_run c.args.daemon (record { system = c.self.inside.system; drives = c.self.inside.drives.items }) c.self.invariant)

pub returns-clause-deeds : goal.returns-clause-deeds
returns-clause-deeds g c = killed_by g.M.Drive c.args.daemon (record { system = c.self.inside.system; drives = c.self.inside.drives.items }) c.args.self.now c.self.view_is c.kill.new.self c.kill.ensures.deeds
