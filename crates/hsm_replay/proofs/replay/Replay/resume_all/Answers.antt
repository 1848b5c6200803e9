use Rattle.std.proofs.Common.{◌≡◌, ◌∙◌, ◌+◌, Ok, Err, refl, rules}
use Rattle.std.proofs.lemmas.Result.{err_from_is_err_and}
use Rattle.hsm_types.specs.Limits.{callers}
use Rattle.hsm_replay.specs.ReadyCallers.{MayGoOn}
use Rattle.hsm_replay.proofs.Joining.{runs_itself, runs_then}
use Rattle.hsm_replay.proofs.Rounds.{resumed_none, resumed_on, resumed_all}
use Rattle.hsm_replay.proofs.DeedRounds.{resumed_none_by, resumed_on_by, resumed_all_by, resumed_stopped}
use Rattle.hsm_replay.proofs.replay.Replay.resume_all.Goals as goal

pub loop-number-init : goal.loop-number-init
loop-number-init g c = record { moves = runs_itself g.D.Disk tt c.args.self.now.system.store; resumed = resumed_none c.args.self.now; runs = refl; deeds = resumed_none_by g.M.Drive (MayGoOn c.args.self.now.system.store) c.args.self.now }

pub loop-number-preserved : goal.loop-number-preserved
loop-number-preserved g c = record {
  moves = runs_then g.D.Disk tt (Ok tt) _ _ _ c.loop-number.invariant.moves c.in_ok-resume_at.ensures.moves;
  resumed = resumed_on c.loop-number.number _ _ _ c.loop-number.invariant.resumed c.in_ok-resume_at.ensures.resumed;
  runs = c.in_ok-resume_at.ensures.runs ∙ c.loop-number.invariant.runs;
  deeds = resumed_on_by g.M.Drive c.loop-number.number _ _ _ c.loop-number.invariant.moves.goes_on.opened c.loop-number.invariant.deeds c.in_ok-resume_at.ensures.deeds;
}

pub returns-in_err-resume_at-clause-moves : goal.returns-in_err-resume_at-clause-moves
returns-in_err-resume_at-clause-moves g c =
    let p = err_from_is_err_and c.from_residual.result c.from_residual.ensures.1 in
    rw (p.1, p.2) (runs_then g.D.Disk tt (Err _) _ _ _ c.loop-number.invariant.moves c.in_err-resume_at.ensures.moves)

pub returns-clause-moves : goal.returns-clause-moves
returns-clause-moves g c = c.loop-number.invariant.moves

pub returns-clause-resumed : goal.returns-clause-resumed
returns-clause-resumed g c =
    let ends : c.loop-number.number ≡ callers + 1 = search rules in
    resumed_all c.args.self.now c.loop-number.self (rw ends at c.loop-number.invariant.resumed)

pub returns-in_err-resume_at-clause-runs : goal.returns-in_err-resume_at-clause-runs
returns-in_err-resume_at-clause-runs g c = c.in_err-resume_at.ensures.runs ∙ c.loop-number.invariant.runs

pub returns-clause-runs : goal.returns-clause-runs
returns-clause-runs g c = c.loop-number.invariant.runs

pub returns-in_err-resume_at-clause-deeds : goal.returns-in_err-resume_at-clause-deeds
returns-in_err-resume_at-clause-deeds g c =
    let p = err_from_is_err_and c.from_residual.result c.from_residual.ensures.1 in
    rw (p.1, p.2) (resumed_stopped g.M.Drive c.loop-number.number _ _ _ c.loop-number.invariant.moves.goes_on.opened c.loop-number.invariant.deeds _ c.in_err-resume_at.ensures.deeds)

pub returns-clause-deeds : goal.returns-clause-deeds
returns-clause-deeds g c =
    let ends : c.loop-number.number ≡ callers + 1 = search rules in
    resumed_all_by g.M.Drive (MayGoOn c.args.self.now.system.store) c.args.self.now c.loop-number.self (rw ends at c.loop-number.invariant.deeds)
