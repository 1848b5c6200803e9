use Rattle.script_text.proofs.Speaking.{caller_number}
use Rattle.script_text.proofs.words.caller.Goals as goal

pub returns-in_default-new : goal.returns-in_default-new
returns-in_default-new c x h same = c.in_default-new.ensures (caller_number c.args.word.now c.in-Some.n x c.in-Some.ensures.1 c.in-Some.ensures.0 h same)
