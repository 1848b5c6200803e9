use Rattle.std.proofs.Common.{◌≡◌, ◌++◌, ◌-◌}
use Rattle.drill_script.specs.Drill.{turn_lines}
use Rattle.drill_script.proofs.script.push_turns.Given as goal

-- with the turns that are left these are the lines that are wanted
abbrev pub invariant-loop : goal.invariant-loop
invariant-loop l = l.lines.items ++ turn_lines (l.count - l.counter) l.draws.x ≡ l.fn.lines.items ++ turn_lines l.fn.count l.fn.draws.x
