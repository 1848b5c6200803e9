use Rattle.std.proofs.Common.{Some, refl}
use Rattle.std.proofs.lemmas.Result.{err_from_is_err_and}
use Rattle.hsm_replay.proofs.Growing.{have_grown_itself}
use Rattle.hsm_policy.specs.Settings.{standard}
use Rattle.hsm_cli.specs.Follows.{SettlesOn, lines_run}
use Rattle.hsm_cli.specs.RunObjects.{source_told}
use Rattle.hsm_cli.proofs.Scripted.{none_true}
use Rattle.hsm_cli.specs.Deeds.{AreDone, AreOfScript, HaveGone, MayGoOnOver}
use Rattle.hsm_cli.proofs.Deeds.{reading_ends}
use Rattle.hsm_cli.proofs.Doing.{all_done, broken_done, done_marked, idle_done, none_done, none_gone, stopped_marked, wanting_done}
use Rattle.hsm_cli.proofs.scripts.run_script.Goals as goal

-- the script was not read

pub returns-in_err-script-clause-media : goal.returns-in_err-script-clause-media
returns-in_err-script-clause-media g c = none_true g.M.Drive _ _ c.requires.ready.store.history

pub returns-in_err-script-clause-drives : goal.returns-in_err-script-clause-drives
returns-in_err-script-clause-drives g c = have_grown_itself g.M.Drive _

pub returns-in_err-script-clause-deeds : goal.returns-in_err-script-clause-deeds
returns-in_err-script-clause-deeds g c =
    let p = err_from_is_err_and c.from_residual.result c.from_residual.ensures.1 in
    let may = MayGoOnOver (Some c.args.replay.now.system.store.opened) in
    let settles = SettlesOn (Some c.args.replay.now.system.store.opened) in
    let lines = AreOfScript c.args.commits (g.I.Source.left c.args.source.now) in
    rw (p.1, p.2)
    (none_done (AreDone may settles lines (Some _)) (λ deeds. HaveGone g.M.Drive standard c.args.replay.now.drives deeds c.args.replay.now.drives) _ c.requires.ready.store.history
    (idle_done may settles lines _ (reading_ends ⊥ ⊥ (source_told g.I.Source.left g.I.Source.fault_count c.args.source.now c.read_script.new.source) _ c.in_err-script.ensures.refused)) (none_gone g.M.Drive _ _ refl))

pub returns-in-Ok-clause-deeds : goal.returns-in-Ok-clause-deeds
returns-in-Ok-clause-deeds g c =
    all_done g.M.Drive c.args.replay.now c.run.new.replay c.requires.ready c.requires.limits (AreOfScript c.args.commits (g.I.Source.left c.args.source.now)) (lines_run c.args.commits c.in_ok-script.script) (c.in_ok-script.script, c.in_ok-script.ensures.script, refl) c.in-Ok.ensures.deeds

pub returns-in-Err-Memory-clause-deeds : goal.returns-in-Err-Memory-clause-deeds
returns-in-Err-Memory-clause-deeds g c =
    wanting_done g.M.Drive c.args.replay.now c.run.new.replay c.requires.ready c.requires.limits (AreOfScript c.args.commits (g.I.Source.left c.args.source.now)) (lines_run c.args.commits c.in_ok-script.script) (c.in_ok-script.script, c.in_ok-script.ensures.script, refl) (rw c.in-Err-Memory.field-0-is at c.in-Err-Memory.ensures.deeds)

pub returns-in-Err-Disk-clause-deeds : goal.returns-in-Err-Disk-clause-deeds
returns-in-Err-Disk-clause-deeds g c =
    broken_done g.M.Drive c.args.replay.now c.run.new.replay c.requires.ready c.requires.limits (AreOfScript c.args.commits (g.I.Source.left c.args.source.now)) (lines_run c.args.commits c.in_ok-script.script) (c.in_ok-script.script, c.in_ok-script.ensures.script, refl) (rw c.in-Err-Disk.field-0-is at c.in-Err-Disk.ensures.deeds)

pub returns-in-Ok-clause-media : goal.returns-in-Ok-clause-media
returns-in-Ok-clause-media g c = (done_marked g.M.Drive c.args.replay.now c.run.new.replay c.requires.ready c.requires.limits _ c.in-Ok.ensures.deeds).faults

pub returns-in-Ok-clause-drives : goal.returns-in-Ok-clause-drives
returns-in-Ok-clause-drives g c = c.in-Ok.ensures.deeds.runs.grown

pub returns-in-Err-Memory-clause-media : goal.returns-in-Err-Memory-clause-media
returns-in-Err-Memory-clause-media g c = (stopped_marked g.M.Drive c.args.replay.now c.run.new.replay c.requires.ready c.requires.limits _ _ c.in-Err-Memory.ensures.deeds).faults

pub returns-in-Err-Memory-clause-drives : goal.returns-in-Err-Memory-clause-drives
returns-in-Err-Memory-clause-drives g c = c.in-Err-Memory.ensures.deeds.runs.grown

pub returns-in-Err-Disk-clause-media : goal.returns-in-Err-Disk-clause-media
returns-in-Err-Disk-clause-media g c = (stopped_marked g.M.Drive c.args.replay.now c.run.new.replay c.requires.ready c.requires.limits _ _ c.in-Err-Disk.ensures.deeds).faults

pub returns-in-Err-Disk-clause-drives : goal.returns-in-Err-Disk-clause-drives
returns-in-Err-Disk-clause-drives g c = c.in-Err-Disk.ensures.deeds.runs.grown
