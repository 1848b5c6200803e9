use Rattle.std.proofs.Common.{◌∙◌, sym, rules}
use borrow.Author.Tests.{tests}
use Rattle.std.specs.String.{string_bytes}
use Rattle.std.proofs.lemmas.List.Folds.{list_all-map}
use Rattle.std.proofs.lemmas.Iterator.{YieldsList-from_slice}
use Rattle.std.proofs.lemmas.Iterator.Search.{all_from_yields_List}
use Rattle.command_words.specs.Commands.{is_name}
use Rattle.command_words.proofs.commands.are_names.Goals as goal

pub returns : goal.returns
returns c =
    all_from_yields_List (λ word. is_name (string_bytes word)) _ _ c.all.result c.all.ensures.ran (YieldsList-from_slice c.args.words.now cc) (λ x b q k. search (rules, tests))
    ∙ sym (list_all-map is_name string_bytes c.args.words.now)
