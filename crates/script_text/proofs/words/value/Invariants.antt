use Rattle.script_text.proofs.Numerals.{IsRead}
use Rattle.script_text.proofs.words.value.Given as goal

abbrev pub invariant-loop-digit : goal.invariant-loop-digit
invariant-loop-digit l = IsRead l.digits l.value l.digit-index
