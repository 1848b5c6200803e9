use Rattle.std.proofs.Common.{◌≡◌, sym, ◌∙◌, arith}
use Rattle.std.proofs.lemmas.Fmt.{decimal_injective}
use Rattle.script_text.proofs.Cutting.{Lacks-not}
use Rattle.script_text.proofs.RegionParts.{region_uncut, region_offset, region_size}
use Rattle.script_text.proofs.regions.region_of.Goals as goal

pub returns-in_default : goal.returns-in_default
returns-in_default c x h same = region_uncut c.args.word.now x c.in_default.ensures same

pub returns-in_default-number : goal.returns-in_default-number
returns-in_default-number c x h same =
    let is = region_offset c.args.word.now c.in-Some.offset.now c.in-Some.rest.now x c.in-Some.ensures.0 c.in-Some.ensures.1 h same in
    c.in_default-number.ensures x.offset h.0 is.0

pub returns-in_default-cut : goal.returns-in_default-cut
returns-in_default-cut c x h same =
    let is = region_offset c.args.word.now c.in-Some.offset.now c.in-Some.rest.now x c.in-Some.ensures.0 c.in-Some.ensures.1 h same in
    Lacks-not 58 _ _ (rw is.1 at c.in_default-cut.ensures)

pub returns-in_default-number-2 : goal.returns-in_default-number-2
returns-in_default-number-2 c x h same =
    let is = region_size c.args.word.now c.in-Some.offset.now c.in-Some.rest.now c.in-Some-cut.size.now c.in-Some-cut.flags.now x c.in-Some.ensures.0 c.in-Some.ensures.1 c.in-Some-cut.ensures.0 c.in-Some-cut.ensures.1 h same in
    c.in_default-number-2.ensures x.size h.1 is.0

pub returns-in_default-number-3 : goal.returns-in_default-number-3
returns-in_default-number-3 c x h same =
    let is = region_size c.args.word.now c.in-Some.offset.now c.in-Some.rest.now c.in-Some-cut.size.now c.in-Some-cut.flags.now x c.in-Some.ensures.0 c.in-Some.ensures.1 c.in-Some-cut.ensures.0 c.in-Some-cut.ensures.1 h same in
    c.in_default-number-3.ensures x.flags (omega (arith, h.2)) is.1

pub returns-then-flags-gt-GREATEST_FLAGS : goal.returns-then-flags-gt-GREATEST_FLAGS
returns-then-flags-gt-GREATEST_FLAGS c x h same =
    let is = region_size c.args.word.now c.in-Some.offset.now c.in-Some.rest.now c.in-Some-cut.size.now c.in-Some-cut.flags.now x c.in-Some.ensures.0 c.in-Some.ensures.1 c.in-Some-cut.ensures.0 c.in-Some-cut.ensures.1 h same in
    let number : c.in-Some-number-3.flags ≡ x.flags = decimal_injective c.in-Some-number-3.flags x.flags c.in-Some-number-3.ensures.0 (omega (arith, h.2)) (sym c.in-Some-number-3.ensures.1 ∙ is.1) in
    absurd (omega (arith, number, h.2))
