use Rattle.std.proofs.Common.{refl, ap}
use Rattle.std.specs.Prelude.{codes}
use Rattle.plain_model.specs.declared.entries.Actor.TheVariants.{Caller}
use Rattle.script_text.specs.Reading.{text_by}
use Rattle.script_text.proofs.DataParts.{agree, differ}
use Rattle.script_text.proofs.Speaking.{caller_says}
use Rattle.script_text.proofs.events.caller_line.Goals as goal

pub returns-then-eq : goal.returns-then-eq
returns-then-eq c =
    let same = agree c.args.text.now c.as_slice.result.now (codes "resume") c.eq.result c.eq.ensures c.as_slice.ensures c.if-eq.true in
    ((c.requires.caller, refl), ap (text_by (Caller c.args.caller)) same)

pub returns-in_default : goal.returns-in_default
returns-in_default c x h same =
    let other = differ c.args.text.now c.as_slice.result.now (codes "resume") c.eq.result c.eq.ensures c.as_slice.ensures c.if-eq.false in
    let a = caller_says c.args.caller c.args.text.now x c.requires.caller h other same in
    (rw c.in_default.is at c.in_ok-call.ensures) a.request a.lawful a.spelled
