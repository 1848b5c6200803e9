use Rattle.script_text.proofs.Handling.{key_cut}
use Rattle.script_text.proofs.handles.key_of.Goals as goal

pub returns-in_default-number : goal.returns-in_default-number
returns-in_default-number c x h same =
    let is = key_cut c.args.word.now c.in-Some.ino.now c.in-Some.igen.now x c.in-Some.ensures.0 c.in-Some.ensures.1 h same in
    c.in_default-number.ensures x.ino h.0 is.0

pub returns-in_default-number-2 : goal.returns-in_default-number-2
returns-in_default-number-2 c x h same =
    let is = key_cut c.args.word.now c.in-Some.ino.now c.in-Some.igen.now x c.in-Some.ensures.0 c.in-Some.ensures.1 h same in
    c.in_default-number-2.ensures x.igen h.1 is.1
