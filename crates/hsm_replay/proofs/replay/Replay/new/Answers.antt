use Rattle.std.proofs.Common.{sym, subst}
use Rattle.hsm_system.specs.Systems.{System}
use Rattle.hsm_replay.specs.Systems.{IsRun}
use Rattle.hsm_replay.proofs.Between.{new_is_run}
use Rattle.hsm_replay.proofs.replay.Replay.new.Goals as goal

pub invariant_of-result : goal.invariant_of-result
invariant_of-result g c = subst (λ (s : System g.row.D.Denot). IsRun {D = g.row.D.Denot} {M = g.row.M.Denot} (record { system = s; drives = c.args.drives.items })) (sym c.new.ensures) (new_is_run c.args.hsm c.args.settings c.args.drives.items c.requires)
