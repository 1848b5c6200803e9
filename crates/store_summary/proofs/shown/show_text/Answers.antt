use Rattle.std.proofs.Common.{ℕ, List, ◌++◌, map, ap, ◌∙◌}
use Rattle.std.specs.Option.{option_copied}
use Rattle.store_summary.specs.Named.{named}
use Rattle.store_summary.specs.Shown.{show_lines}
use Rattle.store_summary.specs.declared.named.Named.{Named}
use Rattle.store_summary.proofs.shown.show_text.Goals as goal

pub returns : goal.returns
returns c =
    let lines : List Named → List ℕ = λ files. show_lines c.args.summary.now (option_copied c.args.classes) (map named files) in
    record {
      files = map named c.in_ok-files.files.items;
      ordered = c.in_ok-files.ensures;
      is = c.from.ensures ∙ c.in_ok-push_lines.ensures ∙ ap (λ l. l ++ lines c.deref.result.now) c.new-out.ensures.items ∙ ap lines c.deref.ensures.value;
    }
