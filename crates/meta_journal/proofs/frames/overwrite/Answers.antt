use Rattle.std.proofs.Common.{rules, arith}
use Rattle.std.proofs.lemmas.List.{same_lists, places}
use Rattle.disk_model.specs.Images.{overlay}
use Rattle.meta_journal.proofs.frames.overwrite.Goals as goal

pub returns : goal.returns
unfolding overlay
returns c = same_lists _ _ (search (rules, places)) (λ i d h. grind (arith, places, c.copy_from_slice.ensures.after))
