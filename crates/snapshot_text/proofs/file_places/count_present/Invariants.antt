use Rattle.std.proofs.Common.{◌≡◌, ◌+◌, length, drop}
use Rattle.snapshot_text.specs.Files.{present}
use Rattle.snapshot_text.proofs.file_places.count_present.Given as goal

abbrev pub invariant-loop-place : goal.invariant-loop-place
invariant-loop-place l = l.count + length (present (drop l.place-index l.places)) ≡ length (present l.places)
