use Rattle.std.proofs.Common.{refl, ◌∙◌}
use Rattle.hsm_core.proofs.services.tables.table_of.Goals as goal

pub returns : goal.returns
returns c = λ held shown. let used = c.used.ensures ∙ shown.used in let files = c.in_ok-rows.ensures held shown in rw (used, files, c.from.ensures) refl
