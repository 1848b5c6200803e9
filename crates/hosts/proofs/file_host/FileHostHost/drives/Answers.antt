use Rattle.hosts.proofs.SharedFolders.{shared-counted, shared-room, shared-has, shared-only}
use Rattle.hosts.proofs.file_host.FileHostHost.drives.Goals as goal

pub returns-in-Ok-clause-given : goal.returns-in-Ok-clause-given
returns-in-Ok-clause-given g c = record {
  count = c.in-Ok.ensures.count;
  counted = shared-counted c.args.drives c.args.volumes c.args.capacity c.in-Ok.drives.items c.in-Ok.ensures;
  room = shared-room c.args.drives c.args.volumes c.args.capacity c.in-Ok.drives.items c.in-Ok.ensures;
  has = shared-has c.args.drives c.args.volumes c.args.capacity c.in-Ok.drives.items c.in-Ok.ensures;
  only = shared-only c.args.drives c.args.volumes c.args.capacity c.in-Ok.drives.items c.in-Ok.ensures;
  there = λ v o within stored. absurd stored;
}
