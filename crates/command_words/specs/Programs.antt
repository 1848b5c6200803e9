-- The programs as `clap` is told of them: each is a subcommand with positional words alone.
use Rattle.std.specs.Prelude.{◌≡◌, List, [], ◌∷◌, Option, Some, None, true, false, codes, if◌then◌else◌}
use Rattle.std.specs.Option.{option_map, option_and_then, option_map_or}
use Rattle.std.specs.Str.{bytes_eq}
use Rattle.clap.specs.Simple.{App, Shape, new_rule, new_shape, shape_of, with_subcommand}
use Rattle.clap.specs.Walk.{Row, Rule, Text, first_of, rule_of}
use Rattle.clap.specs.declared.builder.arg.Arg.{Arg}
use Rattle.clap.specs.declared.builder.command.Command.{Command as Parser}
use Rattle.clap.specs.declared.builder.command.Command.TheViews.{out-Command}
use Rattle.command_words.specs.Commands.{Form, Format, Replay, ReplayStore, Show, ShowVolumes, Drill, size_named, number_named}

-- a word that has to be there
abbrev pub required_word : Text → Rule
required_word id = record (new_rule id) { required = true }

abbrev pub program : Text → List Rule → Shape
program name rules = record (new_shape name) { rules = rules }

abbrev pub format_program : Shape
format_program = program (codes "format") (required_word (codes "path") ∷ required_word (codes "size") ∷ [])

abbrev pub replay_program : Shape
replay_program = program (codes "replay") (new_rule (codes "path") ∷ new_rule (codes "dir") ∷ [])

abbrev pub show_program : Shape
show_program = program (codes "show") (required_word (codes "path") ∷ new_rule (codes "dir") ∷ [])

abbrev pub drill_program : Shape
drill_program = program (codes "drill") (required_word (codes "number") ∷ [])

-- no name of a binary stands before the words, and there are no calls for help
abbrev pub no_programs : App
no_programs = record {
  top = record (new_shape (codes "hsm")) {
    no_binary_name = true;
    disable_help_flag = true;
    disable_help_subcommand = true;
    subcommand_required = true;
  };
  subs = [];
}

-- the programs that make a store and show one
abbrev pub with_stores : App → App
with_stores a = with_subcommand (with_subcommand a format_program) show_program

-- the programs that run a script
abbrev pub with_runs : App → App
with_runs a = with_subcommand (with_subcommand a replay_program) drill_program

abbrev pub all_programs : App
all_programs = with_runs (with_stores no_programs)

-- the argument is that word, and of no other command
abbrev pub IsWord : Rule → Arg → Type 0
IsWord rule a = (rule_of a ≡ rule) × (a.global ≡ false)

-- the command is that program, and no word of it is one of others
abbrev pub IsProgram : Shape → Parser → Type 0
IsProgram shape c = (shape_of c ≡ shape) × ((out-Command c).has_globals ≡ false)

-- ---- the form that the words of a program make, by their ids

abbrev pub format_read : (Text → Option Text) → Option Form
format_read given = option_and_then (λ path. option_map (Format path) (option_and_then size_named (given (codes "size")))) (given (codes "path"))

-- a path makes no form without a folder
abbrev pub replay_read : (Text → Option Text) → Option Form
replay_read given = option_map_or (λ path. option_map (ReplayStore path) (given (codes "dir"))) (given (codes "path")) (Some Replay)

abbrev pub show_read : (Text → Option Text) → Option Form
show_read given = option_map (λ path. option_map_or (ShowVolumes path) (given (codes "dir")) (Show path)) (given (codes "path"))

abbrev pub drill_read : (Text → Option Text) → Option Form
drill_read given = option_map Drill (option_and_then number_named (given (codes "number")))

abbrev pub program_read : Text → (Text → Option Text) → Option Form
program_read name given =
    if bytes_eq name (codes "format") then format_read given
    else (if bytes_eq name (codes "replay") then replay_read given
    else (if bytes_eq name (codes "show") then show_read given
    else (if bytes_eq name (codes "drill") then drill_read given else None)))

-- the form that the subcommand of a parse makes
abbrev pub read_form : Option (Text × List Row) → Option Form
read_form = option_and_then (λ p. program_read p.0 (λ id. first_of id p.1))
