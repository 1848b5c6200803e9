use Rattle.std.proofs.Common.{◌∙◌}
use Rattle.clap.specs.Matches.{found_of}
use Rattle.command_words.proofs.Reading.{program_read-rows}
use Rattle.command_words.proofs.commands.Command.read.Goals as goal

pub returns : goal.returns
returns c =
    c.of_program.ensures ∙ program_read-rows c.args.matches.now c.in_ok-program.program.now (found_of c.in_ok-program.words.now) c.in_ok-program.ensures.name c.in_ok-program.ensures.rows
