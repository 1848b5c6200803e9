use Rattle.std.proofs.Common.{sym, ◌∙◌}
use Rattle.std.specs.Prelude.{codes}
use Rattle.std.proofs.lemmas.Bool.{false≢true}
use Rattle.std.proofs.lemmas.Slice.Eq.{bytes_eq-Decides}
use Rattle.script_text.proofs.DataParts.{differ}
use Rattle.script_text.proofs.ResponseParts.{response_uncut, response_cut}
use Rattle.script_text.proofs.responses.response_of.Goals as goal

pub returns-in_default : goal.returns-in_default
returns-in_default c x h same =
    let other = differ c.args.text.now c.as_slice.result.now (codes "continue") c.eq.result c.eq.ensures c.as_slice.ensures c.if-eq.false in
    response_uncut c.args.text.now x h c.in_default.ensures other same

pub returns-then-ne : goal.returns-then-ne
returns-then-ne c x h same =
    let other = differ c.args.text.now c.as_slice.result.now (codes "continue") c.eq.result c.eq.ensures c.as_slice.ensures c.if-eq.false in
    let is = response_cut c.args.text.now c.in-Some.word.now c.in-Some.error.now x h c.in-Some.ensures.0 c.in-Some.ensures.1 other same in
    let equal = (bytes_eq-Decides c.in-Some.word.now c.as_slice-2.result.now).1 (is.first ∙ sym c.as_slice-2.ensures) in
    false≢true (sym (rw equal at c.ne.ensures) ∙ c.if-ne.true)
