use Rattle.std.proofs.Common.{◌≡◌}
use Rattle.script_text.specs.Lines.{pattern}
use Rattle.script_text.proofs.bodies.pattern_bytes.Given as goal

abbrev pub invariant-loop-i : goal.invariant-loop-i
invariant-loop-i l = l.bytes.items ≡ pattern l.i l.seed
