use Rattle.hsm_policy.specs.Settings.{standard}
use Rattle.hsm_cli.proofs.InMemory.{new_handed}
use Rattle.hsm_cli.proofs.in_memory.new_drives.Goals as goal

pub returns-in-Ok-clause-handed : goal.returns-in-Ok-clause-handed
returns-in-Ok-clause-handed c =
    new_handed standard.drives standard.volumes standard.capacity c.in-Ok.drives.items
    (rw (c.drives.ensures.drives, c.volumes.ensures.volumes, c.capacity.ensures.capacity, c.default-settings.ensures) at c.in-Ok.ensures)
