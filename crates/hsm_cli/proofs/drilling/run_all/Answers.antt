use Rattle.std.proofs.Common.{refl}
use Rattle.hsm_cli.specs.Deeds.{AreThese}
use Rattle.hsm_cli.proofs.Doing.{all_done, broken_done, done_marked, stopped_marked, wanting_done}
use Rattle.hsm_cli.proofs.drilling.run_all.Goals as goal

pub returns-in-Ok-clause-deeds : goal.returns-in-Ok-clause-deeds
returns-in-Ok-clause-deeds g c = all_done g.M.Drive c.args.replay.now c.run.new.replay c.requires.ready c.requires.limits (AreThese c.args.script) c.args.script refl c.in-Ok.ensures.deeds

pub returns-in-Err-Memory-clause-deeds : goal.returns-in-Err-Memory-clause-deeds
returns-in-Err-Memory-clause-deeds g c = wanting_done g.M.Drive c.args.replay.now c.run.new.replay c.requires.ready c.requires.limits (AreThese c.args.script) c.args.script refl (rw c.in-Err-Memory.field-0-is at c.in-Err-Memory.ensures.deeds)

pub returns-in-Err-Disk-clause-deeds : goal.returns-in-Err-Disk-clause-deeds
returns-in-Err-Disk-clause-deeds g c = broken_done g.M.Drive c.args.replay.now c.run.new.replay c.requires.ready c.requires.limits (AreThese c.args.script) c.args.script refl (rw c.in-Err-Disk.field-0-is at c.in-Err-Disk.ensures.deeds)

pub returns-in-Ok-clause-media : goal.returns-in-Ok-clause-media
returns-in-Ok-clause-media g c = (done_marked g.M.Drive c.args.replay.now c.run.new.replay c.requires.ready c.requires.limits _ c.in-Ok.ensures.deeds).faults

pub returns-in-Ok-clause-drives : goal.returns-in-Ok-clause-drives
returns-in-Ok-clause-drives g c = c.in-Ok.ensures.deeds.runs.grown

pub returns-in-Err-Memory-clause-media : goal.returns-in-Err-Memory-clause-media
returns-in-Err-Memory-clause-media g c = (stopped_marked g.M.Drive c.args.replay.now c.run.new.replay c.requires.ready c.requires.limits _ _ c.in-Err-Memory.ensures.deeds).faults

pub returns-in-Err-Memory-clause-drives : goal.returns-in-Err-Memory-clause-drives
returns-in-Err-Memory-clause-drives g c = c.in-Err-Memory.ensures.deeds.runs.grown

pub returns-in-Err-Disk-clause-media : goal.returns-in-Err-Disk-clause-media
returns-in-Err-Disk-clause-media g c = (stopped_marked g.M.Drive c.args.replay.now c.run.new.replay c.requires.ready c.requires.limits _ _ c.in-Err-Disk.ensures.deeds).faults

pub returns-in-Err-Disk-clause-drives : goal.returns-in-Err-Disk-clause-drives
returns-in-Err-Disk-clause-drives g c = c.in-Err-Disk.ensures.deeds.runs.grown
