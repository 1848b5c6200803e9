use Rattle.std.proofs.Common.{arith}
use Rattle.std.proofs.lemmas.Grind.{common_steps}
use Rattle.snapshot_text.proofs.ClearedPlaces.{count-without}
use Rattle.snapshot_text.proofs.file_places.clear_segment.Goals as goal

pub returns-clause-places : goal.returns-clause-places
returns-clause-places c = grind (arith, common_steps)

pub returns-clause-cleared : goal.returns-clause-cleared
returns-clause-cleared c = rw (returns-clause-places c, c.count_present-cleared.ensures, c.segment_places.ensures, c.deref.ensures.value) (count-without c.args.segment c.args.places.now.items)
