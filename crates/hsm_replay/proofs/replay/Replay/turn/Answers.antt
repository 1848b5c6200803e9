use Rattle.std.proofs.Common.{◌∙◌}
use Rattle.std.proofs.lemmas.Result.{err_from_is_err_and}
use Rattle.hsm_replay.proofs.Joining.{runs_then}
use Rattle.hsm_replay.proofs.Turning.{turned_later}
use Rattle.hsm_replay.proofs.DeedRounds.{turn_stopped, turn_done}
use Rattle.hsm_replay.proofs.replay.Replay.turn.Goals as goal

pub returns-in_err-rest-clause-moves : goal.returns-in_err-rest-clause-moves
returns-in_err-rest-clause-moves g c =
    let p = err_from_is_err_and c.from_residual.result c.from_residual.ensures.1 in
    rw (p.1, p.2) c.in_err-rest.ensures.moves

pub returns-clause-moves : goal.returns-clause-moves
returns-clause-moves g c = runs_then g.D.Disk tt c.whole_turn.result _ _ _ c.in_ok-rest.ensures.moves c.whole_turn.ensures.moves

pub returns-clause-turned : goal.returns-clause-turned
returns-clause-turned g c = turned_later g.D.Disk g.M.Drive c.whole_turn.result c.args.daemon _ _ _ c.in_ok-rest.ensures.goes c.whole_turn.ensures.turned

pub returns-clause-runs : goal.returns-clause-runs
returns-clause-runs g c = c.whole_turn.ensures.runs ∙ c.in_ok-rest.ensures.runs

pub returns-in_err-rest-clause-deeds : goal.returns-in_err-rest-clause-deeds
returns-in_err-rest-clause-deeds g c =
    let p = err_from_is_err_and c.from_residual.result c.from_residual.ensures.1 in
    rw (p.1, p.2) (turn_stopped g.M.Drive c.args.daemon _ _ _ c.in_err-rest.ensures.deeds)

pub returns-clause-deeds : goal.returns-clause-deeds
returns-clause-deeds g c = turn_done g.M.Drive c.args.daemon _ _ _ c.whole_turn.result c.in_ok-rest.ensures.deeds c.whole_turn.ensures.deeds
