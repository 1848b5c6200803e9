use Rattle.std.proofs.Common.{arith, ◌*◌}
use Rattle.script_text.proofs.HexText.{no_pairs, pair_more, pairs_all, IsBytes-more}
use Rattle.script_text.proofs.bodies.bytes_of.Goals as goal

pub loop-i-init : goal.loop-i-init
loop-i-init c = rw c.in_ok-bytes.ensures.items record { bytes = λ i. omega arith; read = no_pairs c.args.digits.now }

pub loop-i-preserved : goal.loop-i-preserved
loop-i-preserved c =
    rw c.in_ok-push.ensures.items record {
      bytes = IsBytes-more c.loop-i.bytes.items _ c.loop-i.invariant.bytes (omega (arith, c.digit_value.ensures.small, c.digit_value-in-loop-i.ensures.small));
      read = pair_more c.args.digits.now c.loop-i.bytes.items c.loop-i.i c.digit_value.result c.digit_value-in-loop-i.result (omega (arith, c.loop-i-test.true))
          c.digit_value.ensures.small c.digit_value-in-loop-i.ensures.small c.digit_value.ensures.digit c.digit_value-in-loop-i.ensures.digit c.loop-i.invariant.read;
    }

pub returns-clause-bytes : goal.returns-clause-bytes
returns-clause-bytes c = c.loop-i.invariant.bytes

pub returns-clause-digits : goal.returns-clause-digits
returns-clause-digits c = pairs_all c.args.digits.now _ (2 * c.loop-i.i) (omega (arith, c.requires.even, c.loop-i-test.false)) c.loop-i.invariant.read
