use Rattle.std.proofs.Common.{arith}
use Rattle.media_model.proofs.Sizes.{size-below}
use Rattle.media_model.proofs.volume.Volume.replace.Goals as goal

pub overflow_add-self : goal.overflow_add-self
overflow_add-self c = let below = size-below c.self.inside.objects.items c.self.invariant.short c.self.invariant.few in omega (arith, c.self.invariant.counted, c.as_slice.ensures.short)
