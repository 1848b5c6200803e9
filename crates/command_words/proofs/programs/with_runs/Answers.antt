use Rattle.std.proofs.Common.{◌∙◌, ap}
use Rattle.std.proofs.lemmas.Result.{IfOk-weaker}
use Rattle.clap.specs.Simple.{with_subcommand}
use Rattle.command_words.specs.Programs.{drill_program, replay_program}
use Rattle.command_words.proofs.programs.with_runs.Goals as goal

pub returns : goal.returns
returns c =
    IfOk-weaker c.with_program-2.result _ _ (λ both is. is ∙ ap (λ one. with_subcommand one drill_program) (c.in_ok-programs.ensures replay_program c.replay_program.ensures))
    (c.with_program-2.ensures drill_program c.drill_program.ensures)
