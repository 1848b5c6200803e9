use Rattle.std.proofs.Common.{sym, ◌∙◌}
use Rattle.std.proofs.lemmas.Bool.{false≢true}
use Rattle.script_text.proofs.Speaking.{session_says, may_ask}
use Rattle.script_text.proofs.events.session_line.Goals as goal

pub returns-in_default : goal.returns-in_default
returns-in_default c x h same =
    let a = session_says c.args.sid c.args.text.now x c.requires.session h same in
    (rw c.in_default.is at c.in_ok-call.ensures) a.request a.lawful a.spelled

pub returns-then-not-may_ask : goal.returns-then-not-may_ask
returns-then-not-may_ask c x h same =
    let a = session_says c.args.sid c.args.text.now x c.requires.session h same in
    let read = rw c.in-Some.is at c.in_ok-call.ensures in
    false≢true (sym c.if-not-may_ask.true ∙ c.may_ask.ensures.1 (may_ask c.args.sid c.args.text.now c.in-Some.field-0 a read.0 read.1))
