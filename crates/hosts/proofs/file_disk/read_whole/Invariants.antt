use Rattle.std.proofs.Common.{◌≡◌, ◌≤◌, ℕ, List, length, take}
use Rattle.disk_model.specs.Images.{part}
use Rattle.hosts.specs.FileCalls.{Stays}
use Rattle.hosts.proofs.file_disk.read_whole.Given as goal

abbrev pub invariant-calls : goal.invariant-calls
invariant-calls g l = record {
  within : l.done ≤ length l.buf;
  bytes : (c : List ℕ) → g.F.PositionedFile.gives l.fn.file c → take l.done l.buf ≡ part c l.at l.done;
  stays : Stays g.F.PositionedFile l.fn.file l.file;
}
