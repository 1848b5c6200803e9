use Rattle.std.proofs.Common.{◌∙◌, ap}
use Rattle.script_text.specs.Reading.{parts}
use Rattle.script_text.proofs.Cutting.{slice_split-cut, slice_split-lacks}
use Rattle.script_text.proofs.words.first_part.Goals as goal

pub returns-in-Some : goal.returns-in-Some
returns-in-Some c = ap parts c.in-Some.ensures.0 ∙ slice_split-cut 44 c.in-Some.first.now c.in-Some.more.now c.in-Some.ensures.1

pub returns-in-None : goal.returns-in-None
returns-in-None c = slice_split-lacks 44 c.args.word.now c.in-None.ensures
