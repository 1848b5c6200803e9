use Rattle.std.specs.Prelude.{codes}
use Rattle.script_text.proofs.DataParts.{differ}
use Rattle.script_text.proofs.Speaking.{line_uncut, read_unnamed}
use Rattle.script_text.proofs.events.line.Goals as goal

pub returns-in_default : goal.returns-in_default
returns-in_default c x h same =
    let other = differ c.args.text.now c.as_slice-2.result.now (codes "settle") c.eq-2.result c.eq-2.ensures c.as_slice-2.ensures c.if-eq-2.false in
    line_uncut c.args.text.now x c.in_default.ensures other same

pub returns-in-None : goal.returns-in-None
returns-in-None c =
    let other = differ c.args.text.now c.as_slice.result.now (codes "store commit") c.eq.result c.eq.ensures c.as_slice.ensures c.if-eq.false in
    read_unnamed c.args.text.now c.in-Some.who.now c.in-Some.rest.now c.daemon_line.result other c.in-Some.ensures.0 c.in-Some.ensures.1 c.in_default-caller.ensures c.in-None.ensures c.daemon_line.ensures
