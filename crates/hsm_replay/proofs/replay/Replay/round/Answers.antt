use Rattle.std.proofs.Common.{◌∙◌, ℕ, Ok, Err, false, drop, sym, ap}
use Rattle.std.specs.List.{list_all}
use Rattle.std.proofs.lemmas.Result.{err_from_is_err_and}
use Rattle.marked_history.specs.Quiet.{is_quiet}
use Rattle.hsm_replay.proofs.Joining.{runs_then, runs_with, stops_with}
use Rattle.hsm_replay.proofs.Rounds.{begun_runs, begun_fresh, round_runs, round_fresh}
use Rattle.hsm_replay.proofs.DeedRounds.{round_begun_by, round_loud, round_done, recall_cut, resumes_cut_by, migrate_cut}
use Rattle.hsm_replay.proofs.replay.Replay.round.Goals as goal

pub returns-in_err-turn-clause-moves : goal.returns-in_err-turn-clause-moves
returns-in_err-turn-clause-moves g c =
    let p = err_from_is_err_and c.from_residual.result c.from_residual.ensures.1 in
    rw (p.1, p.2) (stops_with g.D.Disk _ _ _ c.in_err-turn.ensures.moves)

pub returns-in_err-resume_all-clause-moves : goal.returns-in_err-resume_all-clause-moves
returns-in_err-resume_all-clause-moves g c =
    let p = err_from_is_err_and c.from_residual-in_err-resume_all.result c.from_residual-in_err-resume_all.ensures.1 in
    rw (p.1, p.2) (runs_then g.D.Disk tt (Err _) _ _ _ c.in_ok-turn.ensures.moves (stops_with g.D.Disk _ _ _ c.in_err-resume_all.ensures.moves))

pub returns-then-not-is_quiet_since-clause-moves : goal.returns-then-not-is_quiet_since-clause-moves
returns-then-not-is_quiet_since-clause-moves g c = runs_with g.D.Disk tt false _ _ (runs_then g.D.Disk tt (Ok tt) _ _ _ c.in_ok-turn.ensures.moves c.in_ok-resume_all.ensures.moves)

pub returns-in_err-turn-2-clause-moves : goal.returns-in_err-turn-2-clause-moves
returns-in_err-turn-2-clause-moves g c =
    let p = err_from_is_err_and c.from_residual-in_err-turn-2.result c.from_residual-in_err-turn-2.ensures.1 in
    rw (p.1, p.2) (runs_then g.D.Disk tt (Err _) _ _ _ (runs_then g.D.Disk tt (Ok tt) _ _ _ c.in_ok-turn.ensures.moves c.in_ok-resume_all.ensures.moves) (stops_with g.D.Disk _ _ _ c.in_err-turn-2.ensures.moves))

pub returns-clause-moves : goal.returns-clause-moves
returns-clause-moves g c = runs_with g.D.Disk tt _ _ _ (runs_then g.D.Disk tt (Ok tt) _ _ _ (runs_then g.D.Disk tt (Ok tt) _ _ _ c.in_ok-turn.ensures.moves c.in_ok-resume_all.ensures.moves) c.in_ok-turn-2.ensures.moves)

pub returns-then-not-is_quiet_since-clause-runs : goal.returns-then-not-is_quiet_since-clause-runs
returns-then-not-is_quiet_since-clause-runs g c = begun_runs _ _ _ c.in_ok-turn.ensures.turned c.in_ok-resume_all.ensures.resumed

pub returns-clause-runs : goal.returns-clause-runs
returns-clause-runs g c = round_runs _ _ _ _ c.in_ok-turn.ensures.turned c.in_ok-resume_all.ensures.resumed c.in_ok-turn-2.ensures.turned

pub returns-then-not-is_quiet_since-clause-fresh : goal.returns-then-not-is_quiet_since-clause-fresh
returns-then-not-is_quiet_since-clause-fresh g c = begun_fresh _ _ _ c.in_ok-turn.ensures.turned c.in_ok-resume_all.ensures.resumed

pub returns-clause-fresh : goal.returns-clause-fresh
returns-clause-fresh g c = round_fresh _ _ _ _ c.in_ok-turn.ensures.turned c.in_ok-resume_all.ensures.resumed c.in_ok-turn-2.ensures.turned

pub returns-in_err-resume_all-clause-runs : goal.returns-in_err-resume_all-clause-runs
returns-in_err-resume_all-clause-runs g c = c.in_err-resume_all.ensures.runs ∙ c.in_ok-turn.ensures.runs

pub returns-in_err-turn-2-clause-runs : goal.returns-in_err-turn-2-clause-runs
returns-in_err-turn-2-clause-runs g c = c.in_err-turn-2.ensures.runs ∙ c.in_ok-resume_all.ensures.runs ∙ c.in_ok-turn.ensures.runs

pub returns-in_err-turn-clause-deeds : goal.returns-in_err-turn-clause-deeds
returns-in_err-turn-clause-deeds g c =
    let p = err_from_is_err_and c.from_residual.result c.from_residual.ensures.1 in
    rw (p.1, p.2) (recall_cut g.M.Drive _ _ _ _ c.in_err-turn.ensures.deeds)

pub returns-in_err-resume_all-clause-deeds : goal.returns-in_err-resume_all-clause-deeds
returns-in_err-resume_all-clause-deeds g c =
    let p = err_from_is_err_and c.from_residual-in_err-resume_all.result c.from_residual-in_err-resume_all.ensures.1 in
    rw (p.1, p.2) (resumes_cut_by g.M.Drive _ _ _ _ c.in_ok-turn.ensures.moves.goes_on.opened c.in_ok-turn.ensures.deeds c.in_err-resume_all.ensures.deeds)

pub returns-then-not-is_quiet_since-clause-deeds : goal.returns-then-not-is_quiet_since-clause-deeds
returns-then-not-is_quiet_since-clause-deeds g c = round_loud g.M.Drive _ _ _ _
    (sym c.if-not-is_quiet_since.true ∙ c.is_quiet_since.ensures ∙ ap (λ (n : ℕ). list_all is_quiet (drop n c.resume_all.new.self.system.store.history)) c.entries-before.ensures.count)
    (round_begun_by g.M.Drive _ _ _ c.in_ok-turn.ensures.turned c.in_ok-turn.ensures.moves.goes_on.opened c.in_ok-turn.ensures.deeds c.in_ok-resume_all.ensures.deeds)

pub returns-in_err-turn-2-clause-deeds : goal.returns-in_err-turn-2-clause-deeds
returns-in_err-turn-2-clause-deeds g c =
    let p = err_from_is_err_and c.from_residual-in_err-turn-2.result c.from_residual-in_err-turn-2.ensures.1 in
    rw (p.1, p.2) (migrate_cut g.M.Drive _ _ _ _ _ _ c.in_ok-turn.ensures.turned c.in_ok-resume_all.ensures.resumed
    (sym c.if-not-is_quiet_since.false ∙ c.is_quiet_since.ensures ∙ ap (λ (n : ℕ). list_all is_quiet (drop n c.resume_all.new.self.system.store.history)) c.entries-before.ensures.count)
    (round_begun_by g.M.Drive _ _ _ c.in_ok-turn.ensures.turned c.in_ok-turn.ensures.moves.goes_on.opened c.in_ok-turn.ensures.deeds c.in_ok-resume_all.ensures.deeds) c.in_err-turn-2.ensures.deeds)

pub returns-clause-deeds : goal.returns-clause-deeds
returns-clause-deeds g c = round_done g.M.Drive _ _ _ _ _ _ c.in_ok-turn.ensures.turned c.in_ok-resume_all.ensures.resumed c.in_ok-turn-2.ensures.turned
    (sym c.if-not-is_quiet_since.false ∙ c.is_quiet_since.ensures ∙ ap (λ (n : ℕ). list_all is_quiet (drop n c.resume_all.new.self.system.store.history)) c.entries-before.ensures.count)
    (c.is_quiet_since-2.ensures ∙ ap (λ (n : ℕ). list_all is_quiet (drop n c.turn-2.new.self.system.store.history)) c.entries-before.ensures.count)
    (round_begun_by g.M.Drive _ _ _ c.in_ok-turn.ensures.turned c.in_ok-turn.ensures.moves.goes_on.opened c.in_ok-turn.ensures.deeds c.in_ok-resume_all.ensures.deeds) c.in_ok-turn-2.ensures.deeds
