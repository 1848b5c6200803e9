use Rattle.std.proofs.Common.{sym, ◌∙◌, arith}
use Rattle.std.proofs.lemmas.Bool.{false≢true}
use Rattle.script_text.proofs.HexText.{encoded_lower, encoded_even}
use Rattle.script_text.proofs.bodies.hex_bytes.Goals as goal

pub returns-then-digits-ne0 : goal.returns-then-digits-ne0
returns-then-digits-ne0 c x h same = let even = encoded_even x c.args.digits.now same in omega (arith, c.if-digits-ne0.true, even)

pub returns-then-not-are_lower_hex : goal.returns-then-not-are_lower_hex
returns-then-not-are_lower_hex c x h same = false≢true (sym c.if-not-are_lower_hex.true ∙ c.are_lower_hex.ensures ∙ rw same (encoded_lower x h))

pub returns : goal.returns
returns c = rw c.from.ensures (c.in_ok-bytes.ensures.bytes, c.in_ok-bytes.ensures.digits)
