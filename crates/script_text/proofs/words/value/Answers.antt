use Rattle.std.proofs.Common.{refl, arith}
use Rattle.script_text.proofs.Numerals.{IsRead-stops, IsRead-end}
use Rattle.script_text.proofs.words.value.Goals as goal

pub returns-in_default : goal.returns-in_default
returns-in_default c = IsRead-stops c.args.digits.now c.loop-digit.value c.loop-digit.digit-index _ c.loop-digit-test.true refl c.loop-digit.invariant c.in_default.ensures

pub returns : goal.returns
returns c = IsRead-end c.args.digits.now c.loop-digit.value c.loop-digit.digit-index (omega arith) c.loop-digit.invariant
