use Rattle.std.proofs.Common.{◌∙◌, true, ap}
use Rattle.clap.specs.Simple.{App, app_of_fields, on_top}
use Rattle.command_words.proofs.programs.no_programs.Goals as goal

abbrev unnamed : App → App
unnamed = on_top (λ s. record s { no_binary_name = true })

abbrev without_flag : App → App
without_flag = on_top (λ s. record s { disable_help_flag = true })

abbrev without_help : App → App
without_help = on_top (λ s. record s { disable_help_subcommand = true })

abbrev with_wanted : App → App
with_wanted = on_top (λ s. record s { subcommand_required = true })

pub returns : goal.returns
returns c =
    ap app_of_fields c.subcommand_required.ensures
    ∙ ap with_wanted (ap app_of_fields c.disable_help_subcommand.ensures
    ∙ ap without_help (ap app_of_fields c.disable_help_flag.ensures
    ∙ ap without_flag (ap app_of_fields c.no_binary_name.ensures
    ∙ ap unnamed c.new.ensures.app)))
