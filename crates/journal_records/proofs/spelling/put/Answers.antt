use Rattle.std.proofs.Common.{rules, arith}
use Rattle.std.proofs.lemmas.List.{same_lists, places}
use Rattle.journal_records.proofs.spelling.put.Goals as goal

pub returns-clause-puts : goal.returns-clause-puts
returns-clause-puts c = same_lists _ _ (search (rules, places)) (λ i d h. grind (arith, places, c.copy_from_slice.ensures.after))
