use Rattle.std.proofs.Common.{◌↔◌}
use Rattle.toml.specs.View.{table_view, members_view}
use Rattle.hsm_policy.specs.Documents.{HasNamesAlone}
use Rattle.hsm_policy.proofs.reading.has_names_alone.Given as goal

abbrev pub invariant-loop-key : goal.invariant-loop-key
invariant-loop-key l = HasNamesAlone (members_view l.key-iterator) ↔ HasNamesAlone (table_view l.document)
