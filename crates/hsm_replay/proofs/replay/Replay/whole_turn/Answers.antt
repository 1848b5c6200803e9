use Rattle.std.proofs.Common.{◌∙◌}
use Rattle.std.proofs.lemmas.Result.{err_from_is_err_and}
use Rattle.hsm_replay.proofs.Joining.{runs_then}
use Rattle.hsm_replay.proofs.Turning.{turned}
use Rattle.hsm_replay.proofs.DeedRounds.{whole_stopped, whole_done}
use Rattle.hsm_replay.proofs.replay.Replay.whole_turn.Goals as goal

pub returns-in_err-step-clause-moves : goal.returns-in_err-step-clause-moves
returns-in_err-step-clause-moves g c =
    let p = err_from_is_err_and c.from_residual.result c.from_residual.ensures.1 in
    rw (p.1, p.2) c.in_err-step.ensures.moves

pub returns-clause-moves : goal.returns-clause-moves
returns-clause-moves g c = runs_then g.D.Disk tt c.rest.result _ _ _ c.in_ok-step.ensures.moves c.rest.ensures.moves

pub returns-clause-turned : goal.returns-clause-turned
returns-clause-turned g c = turned g.D.Disk g.M.Drive c.rest.result c.args.daemon _ _ _ c.asks.ensures.recall c.asks.ensures.migrate c.requires c.in_ok-step.ensures.stepped c.rest.ensures.goes c.rest.ensures.rests

pub returns-clause-runs : goal.returns-clause-runs
returns-clause-runs g c = c.rest.ensures.runs ∙ c.in_ok-step.ensures.runs

pub returns-in_err-step-clause-deeds : goal.returns-in_err-step-clause-deeds
returns-in_err-step-clause-deeds g c =
    let p = err_from_is_err_and c.from_residual.result c.from_residual.ensures.1 in
    rw (p.1, p.2) (whole_stopped g.M.Drive c.args.daemon _ _ c.requires _ c.in_err-step.ensures.deeds)

pub returns-clause-deeds : goal.returns-clause-deeds
returns-clause-deeds g c = whole_done g.M.Drive c.args.daemon _ _ c.requires _ c.rest.result c.in_ok-step.ensures.deeds c.rest.ensures.deeds
