use Rattle.std.proofs.Common.{◌≡◌, ◌++◌, length}
use Rattle.std.specs.List.{flat_map}
use Rattle.byteorder.specs.Endian.{big_bytes}
use Rattle.snapshot_text.specs.Snapshots.{stub_bytes}
use Rattle.snapshot_text.proofs.writing.put_stubs.Given as goal

abbrev pub invariant-loop-segment : goal.invariant-loop-segment
invariant-loop-segment l = l.out.items ++ flat_map stub_bytes l.segment-iterator ≡ l.fn.out.items ++ (big_bytes 4 (length l.stubs) ++ flat_map stub_bytes l.stubs)
