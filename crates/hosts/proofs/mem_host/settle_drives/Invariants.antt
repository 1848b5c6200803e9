use Rattle.std.proofs.Common.{◌≡◌, ◌++◌}
use Rattle.std.specs.Prelude.{map, take, drop}
use Rattle.media_model.specs.Faults.{Faulty}
use Rattle.hosts.proofs.mem_host.settle_drives.Given as goal

abbrev pub invariant-loop-drive : goal.invariant-loop-drive
invariant-loop-drive l = l.drives ≡ map (λ (d : Faulty). record d { faults = 0 }) (take l.drive-index l.initial.drives) ++ drop l.drive-index l.initial.drives
