use Rattle.std.proofs.Common.{◌≡◌, false}
use Rattle.hsm_system.specs.Events.{HasGrown}
use Rattle.hsm_cli.proofs.Daemons.{run_is_well}
use Rattle.hsm_cli.proofs.Drills.{has_left}
use Rattle.hsm_cli.proofs.Faults.{IsMade, caused_served, made}
use Rattle.hsm_cli.proofs.Telling.{not_failed}
use Rattle.hsm_cli.proofs.drilling.run_on.Given.{Over}
use Rattle.hsm_cli.proofs.drilling.run_on.Goals.{After-close-disk}
use Rattle.hsm_cli.proofs.drilling.run_on.Goals as goal

module _ (g : Over) (c : After-close-disk g) where
  goes_on : HasGrown g.D.Disk c.args.hsm c.close-hsm.result.0
  goes_on = rw c.close-hsm.ensures.store (rw c.new-replay.ensures at c.run_all-ended.ensures.goes_on)

  served : IsMade c.close-hsm.result.0.history
  served = rw c.close-hsm.ensures.store (made c.run_all-ended.ensures.deeds)

pub returns-clause-well : goal.returns-clause-well
returns-clause-well g c = rw c.close-disk.ensures.entries (run_is_well (record { anew = c.makes_anew.ensures; over = c.takes_over.ensures; begins = c.begins_right.ensures; passes = c.all_passed.ensures; frees = c.punch_frees.ensures; keeps = c.served_keeps_all.ensures }) g.D.Disk c.args.hsm c.close-hsm.result.0 (goes_on g (goal.at.returns-clause-well g c).After-close-disk) c.close-disk.ensures.kept)

pub returns-clause-good : goal.returns-clause-good
returns-clause-good g c = rw (c.close-disk.ensures.disk, c.close-disk.ensures.entries, ← (goes_on g (goal.at.returns-clause-good g c).After-close-disk).opened) c.close-disk.ensures.kept.good

pub returns-clause-packed : goal.returns-clause-packed
returns-clause-packed g c = rw (c.close-disk.ensures.entries, ← (goes_on g (goal.at.returns-clause-packed g c).After-close-disk).opened) c.close-disk.ensures.kept.packed

pub returns-clause-caused_by : goal.returns-clause-caused_by
returns-clause-caused_by g c =
    let after = (goal.at.returns-clause-caused_by g c).After-close-disk in
    rw c.close-disk.ensures.entries (caused_served g.D.Disk c.is_caused.ensures c.args.hsm c.close-hsm.result.0 (goes_on g after) (served g after) c.close-disk.ensures.kept)

pub returns-clause-media : goal.returns-clause-media
returns-clause-media g c = rw (c.close-disk.ensures.entries, c.close-hsm.ensures.store, c.close-hsm.ensures.drives) c.run_all-ended.ensures.media

pub returns-clause-drives : goal.returns-clause-drives
returns-clause-drives g c = rw c.close-hsm.ensures.drives (rw c.new-replay.ensures at c.run_all-ended.ensures.drives)

pub returns-clause-ends : goal.returns-clause-ends
returns-clause-ends g c = rw (c.close-disk.ensures.disk, c.close-hsm.ensures.store, c.requires.anew.opened) (rw c.new-replay.ensures at c.run_all-ended.ensures.ends)

pub returns-clause-faultless : goal.returns-clause-faultless
returns-clause-faultless g c = rw c.close-disk.ensures.entries (λ sound. c.close-disk.ensures.kept.faultless (not_failed c.close-hsm.result.0.files.failed c.run_all-ended.result (rw c.close-hsm.ensures.store c.run_all-ended.ensures.failed) sound))

pub returns-clause-totals : goal.returns-clause-totals
returns-clause-totals g c =
    let s = c.close-hsm.result.0 in
    rw c.close-disk.ensures.entries (λ sound.
    let working : s.files.failed ≡ false = not_failed s.files.failed c.run_all-ended.result (rw c.close-hsm.ensures.store c.run_all-ended.ensures.failed) sound in
    has_left g.D.Disk s c.args.hsm.opened _ _ (goes_on g (goal.at.returns-clause-totals g c).After-close-disk).opened c.close-disk.ensures.kept working c.totals-used.ensures.used c.totals-used.ensures.offline)

pub returns-clause-deeds : goal.returns-clause-deeds
returns-clause-deeds g c = rw (c.close-disk.ensures.entries, c.close-hsm.ensures.store, c.close-hsm.ensures.drives) (rw c.new-replay.ensures at c.run_all-ended.ensures.deeds)
