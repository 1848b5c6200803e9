use Rattle.std.proofs.Common.{◌≡◌, ◌++◌}
use Rattle.drill_script.specs.Drill.{create_lines}
use Rattle.drill_script.proofs.script.push_creates.Given as goal

abbrev pub invariant-loop-file : goal.invariant-loop-file
invariant-loop-file l = l.lines.items ≡ l.fn.lines.items ++ create_lines l.file
