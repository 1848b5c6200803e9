use Rattle.script_text.proofs.DataParts.{pattern_data, pattern_body}
use Rattle.script_text.proofs.bodies.pattern_body.Goals as goal

pub returns-in_default : goal.returns-in_default
returns-in_default c x h same =
    let p = pattern_data c.args.text.now x.seed x.bytes h same in
    c.in_default.ensures p.0 p.1 p.2

pub returns : goal.returns
returns c = pattern_body c.args.text.now c.in_ok-bytes.bytes c.in-Some.field-0 c.in-Some.ensures.0 c.in-Some.ensures.1 c.in_ok-bytes.ensures
