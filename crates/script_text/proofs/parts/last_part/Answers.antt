use Rattle.script_text.proofs.Parting.{only}
use Rattle.script_text.proofs.parts.last_part.Goals as goal

pub returns-in_default : goal.returns-in_default
returns-in_default c x h same =
    let o = only c.args.kind c.args.text.now x h same in
    (rw c.in_default.is at c.in_ok-part.ensures) o.part o.of_kind o.spelled
