use Rattle.std.proofs.Common.{◌∙◌, IfOk, ap, subst}
use Rattle.std.proofs.lemmas.Result.{IfOk-weaker}
use Rattle.clap.specs.Simple.{app_of, with_subcommand}
use Rattle.command_words.specs.Programs.{IsProgram}
use Rattle.command_words.proofs.programs.with_program.Goals as goal

pub returns-in-Ok : goal.returns-in-Ok
returns-in-Ok c = λ shape made.
    let is : IsProgram shape c.in-Ok.program = subst (λ program. IfOk program (IsProgram shape)) c.in-Ok.is made in
    IfOk-weaker c.subcommand.result _ _ (λ new adds. adds.shape is.1 ∙ ap (with_subcommand (app_of c.args.programs)) is.0) c.subcommand.ensures
