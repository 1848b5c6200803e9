use Rattle.media_model.specs.Faults.{Faulty}
use Rattle.hsm_types.proofs.Changing.{changed_next}
use Rattle.hosts.proofs.mem_host.settle_drives.Goals as goal

pub loop-drive-preserved : goal.loop-drive-preserved
loop-drive-preserved c = changed_next (λ (d : Faulty). record d { faults = 0 }) c.args.drives.now c.loop-drive.drives c.loop-drive.drive-index c.drive-item.result c.reset_faults.new.self c.loop-drive.invariant c.loop-drive-test.true c.reset_faults.ensures
