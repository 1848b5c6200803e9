use Rattle.std.proofs.Common.{refl}
use Rattle.snapshot_text.proofs.KeptBounds.{values-short}
use Rattle.snapshot_text.proofs.writing.put_attributes.Goals as goal

pub loop-name-init : goal.loop-name-init
loop-name-init c = rw (c.into_iter-name-iterator.ensures.into_iter_gives, c.iter-name-items.ensures.rest) record { written = refl; short = values-short c.args.attributes.now c.iter-name-items.ensures.attributes }
