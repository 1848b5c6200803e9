-- A store that was just formatted has no files.
use Rattle.std.proofs.Common.{ℕ, List, sym, arith}
use Rattle.commit_slots.specs.declared.places.Slot.TheVariants.{First}
use Rattle.commit_slots.specs.Images.{empty_snapshot, IsEmptyStore}
use Rattle.commit_slots.proofs.Laid.{laid}
use Rattle.meta_store.specs.Images.{gate_of, IsImage}
use Rattle.meta_store.specs.Laws.{no_files}
use Rattle.meta_store.proofs.SnapshotFits.{spelling-empty}
use Rattle.meta_store.proofs.BesideBlocks.{image_from}

-- Recovery finds number 0 and no files.
pub formatted-image : (geometry fsid : ℕ) (image : List ℕ) → IsEmptyStore geometry fsid image → IsImage fsid 0 (no_files geometry) image
unfolding gate_of
formatted-image geometry fsid image e = record {
  place = record { slot = First };
  holds =
      image_from fsid (record { slot = First }) 0 (no_files geometry) empty_snapshot image e.found e.select (sym (spelling-empty geometry)) (laid geometry).snapshot_len (rw e.select e.emptied.snapshot) (rw e.select e.emptied.gate_0)
      (record { known = e.found.superblock.known; first = omega arith; next = omega arith; table = record { ascend = tt; within = tt; differ = tt }; each = tt; distinct = tt; few = omega arith; few_stubs = omega arith }) tt (omega arith);
}
