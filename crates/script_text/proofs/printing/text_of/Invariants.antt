use Rattle.std.proofs.Common.{◌≡◌, ◌++◌, drop}
use Rattle.script_text.specs.Scripts.{script_text}
use Rattle.script_text.proofs.printing.text_of.Given as goal

abbrev pub invariant-loop-line : goal.invariant-loop-line
invariant-loop-line l = l.out.items ++ script_text (drop l.line-index l.lines) ≡ script_text l.lines
