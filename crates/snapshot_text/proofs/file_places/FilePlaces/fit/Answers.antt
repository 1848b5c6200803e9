use Rattle.std.proofs.Common.{arith}
use Rattle.snapshot_text.proofs.MappedPlaces.{count-fitted}
use Rattle.snapshot_text.proofs.file_places.FilePlaces.fit.Goals as goal

pub overflow_sub-self : goal.overflow_sub-self
overflow_sub-self c = omega (arith, rw (c.as_slice.ensures.value, c.blocks_in-count.ensures) at c.count_from-cut.ensures, count-fitted c.args.size c.self.inside.places.items, c.self.invariant.1)
