use Rattle.std.proofs.Common.{◌∙◌, ap, sym}
use Rattle.std.proofs.lemmas.Result.{IfOk-weaker}
use Rattle.std.specs.Option.{option_map}
use Rattle.command_words.specs.Commands.{form_in}
use Rattle.command_words.proofs.commands.Command.of.Goals as goal

pub returns-in-Err : goal.returns-in-Err
returns-in-Err c = IfOk-weaker c.refused.result _ _ (λ command h. ap (option_map form_in) h.0 ∙ sym (c.in-Err.ensures.err h.1)) c.refused.ensures
