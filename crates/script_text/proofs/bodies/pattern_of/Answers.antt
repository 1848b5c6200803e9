use Rattle.std.proofs.Common.{arith}
use Rattle.script_text.proofs.DataParts.{pattern_uncut, pattern_cut, pattern_numbers}
use Rattle.script_text.proofs.bodies.pattern_of.Goals as goal

pub returns-in_default : goal.returns-in_default
returns-in_default c x h same = pattern_uncut c.args.text.now x c.in_default.ensures same

pub returns-in_default-number : goal.returns-in_default-number
returns-in_default-number c x h same =
    let parts = pattern_cut c.args.text.now c.in-Some.len.now c.in-Some.seed.now x c.in-Some.ensures.0 c.in-Some.ensures.1 h same in
    c.in_default-number.ensures x.len (omega (arith, h.0)) parts.0

pub returns-in_default-number-2 : goal.returns-in_default-number-2
returns-in_default-number-2 c x h same =
    let parts = pattern_cut c.args.text.now c.in-Some.len.now c.in-Some.seed.now x c.in-Some.ensures.0 c.in-Some.ensures.1 h same in
    c.in_default-number-2.ensures x.seed (omega (arith, h.1)) parts.1

pub returns-then-len-gt-PATTERN_BYTES : goal.returns-then-len-gt-PATTERN_BYTES
returns-then-len-gt-PATTERN_BYTES c x h same =
    let is = pattern_numbers c.args.text.now c.in-Some.len.now c.in-Some.seed.now c.in-Some-number.len c.in-Some-number-2.seed x
    c.in-Some.ensures.0 c.in-Some.ensures.1 c.in-Some-number.ensures.0 c.in-Some-number.ensures.1 c.in-Some-number-2.ensures.0 c.in-Some-number-2.ensures.1 h same in
    absurd (omega (arith, is.0, h.0))

pub returns-then-seed-gt-GREATEST_SEED : goal.returns-then-seed-gt-GREATEST_SEED
returns-then-seed-gt-GREATEST_SEED c x h same =
    let is = pattern_numbers c.args.text.now c.in-Some.len.now c.in-Some.seed.now c.in-Some-number.len c.in-Some-number-2.seed x
    c.in-Some.ensures.0 c.in-Some.ensures.1 c.in-Some-number.ensures.0 c.in-Some-number.ensures.1 c.in-Some-number-2.ensures.0 c.in-Some-number-2.ensures.1 h same in
    absurd (omega (arith, is.1, h.1))
