use Rattle.std.proofs.Common.{◌≡◌, ◌++◌, drop}
use Rattle.snapshot_text.specs.Files.{present}
use Rattle.snapshot_text.proofs.file_parts.put_present.Given as goal

abbrev pub invariant-loop-place : goal.invariant-loop-place
invariant-loop-place l = l.blocks.items ++ present (drop l.place-index l.places) ≡ l.fn.blocks.items ++ present l.places
