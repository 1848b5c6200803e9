use Rattle.std.proofs.Common.{sym}
use Rattle.hosts.proofs.NamedThings.{image_at-found}
use Rattle.hosts.proofs.mem_host.MemHost.image.Goals as goal

pub returns-in_err-disk : goal.returns-in_err-disk
returns-in_err-disk c =
    let found = image_at-found c.self.inside.disks c.args.path.now _ c.get.ensures.value in
    rw (← c.self.view_is, c.from_residual.ensures) (sym (rw c.in_err-disk.was at found))

pub returns : goal.returns
returns c =
    let found = image_at-found c.self.inside.disks c.args.path.now _ c.get.ensures.value in
    rw (← c.self.view_is, c.bytes.ensures, c.inner.ensures) (sym (rw c.in_ok-disk.was at found))
