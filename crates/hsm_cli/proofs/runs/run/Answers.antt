use Rattle.std.proofs.lemmas.Result.{err_from_is_err_and}
use Rattle.hsm_replay.proofs.Joining.{runs_then}
use Rattle.hsm_replay.specs.ReadyCallers.{MayGoOn}
use Rattle.hsm_cli.specs.Follows.{SettlesSince}
use Rattle.hsm_cli.proofs.Doing.{lines_then, may_same, stopped_run}
use Rattle.hsm_cli.proofs.runs.run.Goals as goal

pub returns-then-commits-clause-runs : goal.returns-then-commits-clause-runs
returns-then-commits-clause-runs g c = runs_then g.D.Disk tt c.commit.result _ _ _ c.in_ok-run_lines.ensures.runs c.commit.ensures.moves

pub returns-in_err-run_lines-clause-deeds : goal.returns-in_err-run_lines-clause-deeds
returns-in_err-run_lines-clause-deeds g c =
    let p = err_from_is_err_and c.from_residual.result c.from_residual.ensures.1 in
    rw (p.1, p.2) (stopped_run g.M.Drive (MayGoOn c.args.replay.now.system.store) (SettlesSince c.args.replay.now) c.args.commits c.args.script _ c.args.replay.now c.run_lines.new.replay (rw c.into_lines.ensures.lines at c.in_err-run_lines.ensures.deeds))

pub returns-then-commits-clause-deeds : goal.returns-then-commits-clause-deeds
returns-then-commits-clause-deeds g c =
    rw c.if-commits.true
    (lines_then g.M.Drive (MayGoOn c.args.replay.now.system.store) (MayGoOn c.run_lines.new.replay.system.store) c.args.script c.commit.result c.args.replay.now c.run_lines.new.replay c.commit.new.self
    (may_same c.args.replay.now.system.store c.run_lines.new.replay.system.store c.requires.ready.store.working (c.in_ok-run_lines.ensures.runs.works c.requires.ready.store.working) c.in_ok-run_lines.ensures.runs.goes_on.opened)
    (rw c.into_lines.ensures.lines at c.in_ok-run_lines.ensures.deeds) (rw c.into_lines.ensures.lines at c.in_ok-run_lines.ensures.running) c.requires.ready c.commit.ensures.deeds)

pub returns-clause-deeds : goal.returns-clause-deeds
returns-clause-deeds g c = rw c.if-commits.false (rw c.into_lines.ensures.lines at c.in_ok-run_lines.ensures.deeds)
