use Rattle.std.proofs.Common.{map}
use Rattle.std.specs.String.{string_bytes}
use Rattle.clap.specs.Simple.{app_of}
use Rattle.command_words.proofs.Reading.{refused_form, taken_form}
use Rattle.command_words.proofs.commands.parse.Goals as goal

pub returns-clause-ok : goal.returns-clause-ok
returns-clause-ok c = taken_form (app_of c.in_ok-all_programs.field-0) (map string_bytes c.args.words.now) c.in_ok-all_programs.ensures c.requires
    c.try_get_matches_from.result c.try_get_matches_from.ensures.matches c.try_get_matches_from.ensures.kinds

pub returns-clause-err : goal.returns-clause-err
returns-clause-err c = refused_form (app_of c.in_ok-all_programs.field-0) (map string_bytes c.args.words.now) c.in_ok-all_programs.ensures c.requires
    c.try_get_matches_from.result c.try_get_matches_from.ensures.kinds
