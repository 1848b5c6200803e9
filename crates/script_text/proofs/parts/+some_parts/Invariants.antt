use Rattle.std.proofs.Common.{length}
use Rattle.script_text.proofs.parts.+some_parts.Given as goal

abbrev pub decreases-some_parts : goal.decreases-some_parts
decreases-some_parts l = length l.kinds.now
