use Rattle.script_text.proofs.Handling.{handle_cut}
use Rattle.script_text.proofs.handles.handle_of.Goals as goal

pub returns-in_default-number : goal.returns-in_default-number
returns-in_default-number c x h same =
    let is = handle_cut c.args.word.now c.in-Some.fsid.now c.in-Some.key.now x c.in-Some.ensures.0 c.in-Some.ensures.1 h same in
    c.in_default-number.ensures x.fsid h.fsid is.0

pub returns-in_default-key_of : goal.returns-in_default-key_of
returns-in_default-key_of c x h same =
    let is = handle_cut c.args.word.now c.in-Some.fsid.now c.in-Some.key.now x c.in-Some.ensures.0 c.in-Some.ensures.1 h same in
    c.in_default-key_of.ensures x.key (h.ino, h.igen) is.1
