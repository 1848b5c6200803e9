use Rattle.reconcile.proofs.Drives.{none_read, one_read, one_quiet}
use Rattle.reconcile.proofs.Found.{is_found, is_refused}
use Rattle.reconcile.proofs.looking.look.Goals as goal

pub returns-then-volume-volumes-clause-reads : goal.returns-then-volume-volumes-clause-reads
returns-then-volume-volumes-clause-reads g c = none_read g.M.Drive c.args.drives.now

pub returns-clause-found : goal.returns-clause-found
returns-clause-found g c =
    is_found g.M.Drive c.args.volumes c.args.drives.now c.index-drives-number.result c.look_on.new.drive c.args.entry.now c.requires
    (rw c.place-volume.ensures at c.if-volume-volumes.false) c.look_on.result (rw c.place-volume.ensures at c.look_on.ensures.found)

pub returns-clause-refused : goal.returns-clause-refused
returns-clause-refused g c = rw c.place-volume.ensures (
    is_refused g.M.Drive c.args.volumes c.args.drives.now c.index-drives-number.result c.look_on.new.drive c.args.entry.now c.requires
    (rw c.place-volume.ensures at c.if-volume-volumes.false) c.look_on.result (rw c.place-volume.ensures at c.look_on.ensures.refused))

pub returns-clause-reads : goal.returns-clause-reads
returns-clause-reads g c = one_read g.M.Drive c.place-volume.result.volume c.args.drives.now c.index-drives-number.result c.look_on.new.drive c.requires c.look_on.ensures.reads

pub returns-clause-quiet : goal.returns-clause-quiet
returns-clause-quiet g c = λ well. one_quiet g.M.Drive c.place-volume.result.volume c.args.drives.now c.index-drives-number.result c.look_on.new.drive c.requires (c.look_on.ensures.quiet well)
