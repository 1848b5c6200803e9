use Rattle.std.proofs.Common.{◌≤◌, length}
use Rattle.disk_model.specs.Images.{Follows}
use Rattle.hosts.specs.FileCalls.{Frees}
use Rattle.hosts.proofs.Files.{HasFront}
use Rattle.hosts.proofs.file_disk.write_whole.Given as goal

abbrev pub invariant-calls : goal.invariant-calls
invariant-calls g l = record {
  within : l.done ≤ length l.bytes;
  front : Follows (HasFront l.at l.bytes l.done) (g.F.PositionedFile.gives l.fn.file) (g.F.PositionedFile.gives l.file);
  frees : Frees g.F.PositionedFile l.at (length l.bytes) l.fn.file l.file;
}
