use Rattle.std.proofs.Common.{◌∙◌, ap}
use Rattle.std.proofs.lemmas.Result.{IfOk-weaker}
use Rattle.clap.specs.Simple.{with_subcommand}
use Rattle.command_words.specs.Programs.{format_program, show_program}
use Rattle.command_words.proofs.programs.with_stores.Goals as goal

pub returns : goal.returns
returns c =
    IfOk-weaker c.with_program-2.result _ _ (λ both is. is ∙ ap (λ one. with_subcommand one show_program) (c.in_ok-programs.ensures format_program c.format_program.ensures))
    (c.with_program-2.ensures show_program c.show_program.ensures)
