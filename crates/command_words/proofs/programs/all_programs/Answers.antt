use Rattle.std.proofs.Common.{◌∙◌, ap}
use Rattle.std.proofs.lemmas.Result.{IfOk-weaker}
use Rattle.command_words.specs.Programs.{with_runs, with_stores}
use Rattle.command_words.proofs.programs.all_programs.Goals as goal

pub returns : goal.returns
returns c =
    IfOk-weaker c.with_runs.result _ _ (λ all is. is ∙ ap with_runs (c.in_ok-programs.ensures ∙ ap with_stores c.no_programs.ensures)) c.with_runs.ensures
