use Rattle.std.proofs.Common.{◌≡◌, ◌≤◌, ◌-◌, length}
use Rattle.std.specs.Io.KnownBytes.{Consumes}
use Rattle.hsm_cli.specs.Sources.{most_read}
use Rattle.hsm_cli.proofs.streams.read_all.Given as goal

abbrev pub invariant-loop-source : goal.invariant-loop-source
invariant-loop-source g l = record {
  taken : Consumes (g.I.Source.left l.fn.source) (g.I.Source.left l.source) l.bytes.items;
  within : length l.bytes.items ≤ most_read;
  quiet : g.I.Source.fault_count l.source ≡ g.I.Source.fault_count l.fn.source;
}

abbrev pub decreases-loop-source : goal.decreases-loop-source
decreases-loop-source g l = most_read - length l.bytes.items
