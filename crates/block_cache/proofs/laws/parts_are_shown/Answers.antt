use Rattle.block_cache.proofs.PartLists.{parts_shown}
use Rattle.block_cache.proofs.laws.parts_are_shown.Goals as goal

pub returns : goal.returns
returns c cache content shown sizes places are start count low = parts_shown cache content shown sizes places are start count low
