use Rattle.std.proofs.Common.{◌∙◌, Ok, Err, refl, rules}
use Rattle.std.proofs.lemmas.Result.{err_from_is_err_and}
use Rattle.hsm_system.specs.Systems.{Rests}
use Rattle.hsm_replay.proofs.Joining.{runs_itself, runs_then}
use Rattle.hsm_replay.proofs.Turning.{turn_itself, turn_then, step_goes}
use Rattle.hsm_replay.proofs.Working.{step_nears}
use Rattle.hsm_replay.proofs.DeedRounds.{left_none, left_on, left_over, left_stopped}
use Rattle.hsm_replay.proofs.replay.Replay.rest.Goals as goal

pub loop-alloc-init : goal.loop-alloc-init
loop-alloc-init g c = record { moves = runs_itself g.D.Disk tt c.args.self.now.system.store; goes = turn_itself g.D.Disk g.M.Drive c.args.daemon c.args.self.now; runs = refl; deeds = left_none g.M.Drive c.args.daemon c.args.self.now }

pub loop-alloc-preserved : goal.loop-alloc-preserved
loop-alloc-preserved g c = record {
  moves = runs_then g.D.Disk tt (Ok tt) _ _ _ c.loop-alloc.invariant.moves c.in_ok-step.ensures.moves;
  goes = turn_then g.D.Disk g.M.Drive c.args.daemon _ _ _ c.loop-alloc.invariant.goes (step_goes g.D.Disk g.M.Drive c.args.daemon _ _ c.in_ok-step.ensures.stepped);
  runs = c.in_ok-step.ensures.runs ∙ c.loop-alloc.invariant.runs;
  deeds = let works : Rests c.args.daemon c.loop-alloc.self.system → ⊥ = search rules in left_on g.M.Drive c.args.daemon _ _ _ works c.loop-alloc.invariant.deeds c.in_ok-step.ensures.deeds;
}

pub loop-alloc-smaller : goal.loop-alloc-smaller
loop-alloc-smaller g c =
    let works : Rests c.args.daemon c.loop-alloc.self.system → ⊥ = search rules in
    step_nears g.D.Disk g.M.Drive c.args.daemon _ _ c.entries.ensures.few works c.in_ok-step.ensures.stepped

pub returns-in_err-step-clause-moves : goal.returns-in_err-step-clause-moves
returns-in_err-step-clause-moves g c =
    let p = err_from_is_err_and c.from_residual.result c.from_residual.ensures.1 in
    rw (p.1, p.2) (runs_then g.D.Disk tt (Err _) _ _ _ c.loop-alloc.invariant.moves c.in_err-step.ensures.moves)

pub returns-in_err-step-clause-runs : goal.returns-in_err-step-clause-runs
returns-in_err-step-clause-runs g c = c.in_err-step.ensures.runs ∙ c.loop-alloc.invariant.runs

pub returns-in_err-step-clause-deeds : goal.returns-in_err-step-clause-deeds
returns-in_err-step-clause-deeds g c =
    let p = err_from_is_err_and c.from_residual.result c.from_residual.ensures.1 in
    let works : Rests c.args.daemon c.loop-alloc.self.system → ⊥ = search rules in
    rw (p.1, p.2) (left_stopped g.M.Drive c.args.daemon _ _ _ _ works c.loop-alloc.invariant.deeds c.in_err-step.ensures.deeds)

pub returns-clause-deeds : goal.returns-clause-deeds
returns-clause-deeds g c = let rests : Rests c.args.daemon c.loop-alloc.self.system = search rules in left_over g.M.Drive c.args.daemon _ _ rests c.loop-alloc.invariant.deeds
