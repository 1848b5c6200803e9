use Rattle.std.proofs.Common.{◌≡◌, [], arith}
use Rattle.std.proofs.lemmas.Grind.{common_steps}
use Rattle.std.proofs.lemmas.Slice.Zip.{either_empty_from_Zip}
use Rattle.std.specs.List.{zip}
use Rattle.store_summary.proofs.Zipping.{zip_ended}
use Rattle.store_summary.proofs.named.push_named.Goals as goal

pub returns : goal.returns
returns c =
    let none_left : zip c.loop-row.row-iterator.a.rest.now c.loop-row.row-iterator.b.rest.now ≡ [] = zip_ended _ _ (either_empty_from_Zip c.loop-row.row-iterator c.next.new.self c.next.result c.in-None.is c.next.ensures.steps) in
    grind (arith, common_steps)
