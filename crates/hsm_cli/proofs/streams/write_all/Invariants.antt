use Rattle.std.proofs.Common.{◌≡◌, ◌≤◌, ◌-◌, [], length, take}
use Rattle.std.specs.Io.KnownBytes.{Appends}
use Rattle.hsm_cli.proofs.streams.write_all.Given as goal

abbrev pub invariant-loop-done : goal.invariant-loop-done
invariant-loop-done g l = record {
  taken : Appends (g.O.Sink.taken l.fn.sink) (g.O.Sink.taken l.sink) (take l.done l.bytes);
  within : l.done ≤ length l.bytes;
  quiet : g.O.Sink.fault_count l.sink ≡ g.O.Sink.fault_count l.fn.sink;
  idle : l.bytes ≡ [] → l.sink ≡ l.fn.sink;
}

abbrev pub decreases-loop-done : goal.decreases-loop-done
decreases-loop-done g l = length l.bytes - l.done
