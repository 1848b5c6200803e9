use Rattle.std.proofs.Common.{◌≡◌, ◌≤◌, length}
use Rattle.std.specs.Prelude.{sum_by}
use Rattle.script_text.specs.Limits.{script_access_bytes}
use Rattle.script_text.specs.Lines.{access_length}
use Rattle.script_text.proofs.NextLines.{IsReached}
use Rattle.script_text.proofs.parser.lines.Given as goal

abbrev pub invariant-loop-rest : goal.invariant-loop-rest
invariant-loop-rest l = record {
  reached : IsReached l.allowed l.bytes l.lines.items l.rest;
  sum : l.total ≡ sum_by access_length l.lines.items;
  light : l.total ≤ script_access_bytes;
}

abbrev pub decreases-loop-rest : goal.decreases-loop-rest
decreases-loop-rest l = length l.rest
