use Rattle.file_store.specs.Stores.{superblock_of}
use Rattle.hsm_core.proofs.Targets.{widest_bounded}
use Rattle.hsm_core.proofs.judging.facts.Goals as goal

pub touches_region-requires-clause-bounded : goal.touches_region-requires-clause-bounded
touches_region-requires-clause-bounded g c =
    widest_bounded (superblock_of c.args.files.now).geometry.limits c.args.call.now c.superblock-superblock.ensures.countable c.requires.bounded

pub needs_segment-requires-clause-bounded : goal.needs_segment-requires-clause-bounded
needs_segment-requires-clause-bounded g c =
    widest_bounded (superblock_of c.args.files.now).geometry.limits c.args.call.now c.superblock-superblock.ensures.countable c.requires.bounded

pub shortage-requires-clause-bounded : goal.shortage-requires-clause-bounded
shortage-requires-clause-bounded g c =
    widest_bounded (superblock_of c.args.files.now).geometry.limits c.args.call.now c.superblock-superblock.ensures.countable c.requires.bounded
