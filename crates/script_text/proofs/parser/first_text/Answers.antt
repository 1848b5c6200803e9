use Rattle.std.proofs.Common.{arith, ◌∙◌, ap, ◌-◌, length, take, drop, length-take, length-drop}
use Rattle.script_text.specs.Scripts.{texts_of}
use Rattle.script_text.proofs.Cutting.{texts_of-line, texts_of-last, texts_of-none}
use Rattle.script_text.proofs.parser.first_text.Goals as goal

pub returns-in-Some-clause-texts : goal.returns-in-Some-clause-texts
returns-in-Some-clause-texts c =
    ap texts_of c.in-Some.ensures.0 ∙ texts_of-line c.in-Some.text.now c.in-Some.more.now c.in-Some.ensures.1

pub returns-in-None-clause-texts : goal.returns-in-None-clause-texts
returns-in-None-clause-texts c = rw (texts_of-none (take (length c.args.bytes.now - length c.args.bytes.now) (drop (length c.args.bytes.now) c.args.bytes.now)) (simp (length-take, length-drop) (omega arith))) (texts_of-last c.args.bytes.now c.in-None.ensures c.requires)
