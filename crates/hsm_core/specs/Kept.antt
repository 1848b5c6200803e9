-- What a store keeps of its history.
use Rattle.std.specs.Prelude.{◌≡◌, false}
use Rattle.disk_model.specs.Moments.{Tells}
use Rattle.disk_model.specs.declared.device.Disk as disk
use Rattle.plain_model.specs.Faults.{has_fault}
use Rattle.plain_model.specs.State.{just_opened}
use Rattle.plain_model.specs.Exact.{state_by}
use Rattle.plain_model.specs.Laws.{IsRunSeen, IsOrderly, IsGoodRun}
use Rattle.file_store.specs.Stores.{superblock_of}
use Rattle.hsm_core.specs.Packed.{ArePacked}
use Rattle.hsm_core.specs.Store.{Store, opening_of, state_of, TellsFailure}

-- The history is a run from the opening, exact but for bytes, and for whether these refuse a seal; so it uses each token once and keeps its tables in order.
-- Where the disk tells what it holds it is exact in these too, and a good run. It hands out messages as the rules say. As long as no call of the disk has
-- failed there is no fault in it, and the store's state is what the whole of it leaves; and once one has, an entry tells it.
pub record IsKept {D : Type 0} (g : disk.Ghosts D) (s : Store D) : Type 0 where
  pub superblock : superblock_of s.files ≡ superblock_of s.opened
  pub run : IsRunSeen (Tells g s.files.disk) (superblock_of s.opened) s.opened.meta.number (opening_of s) s.history
  pub orderly : IsOrderly (superblock_of s.opened) s.opened.meta.number (opening_of s) s.history
  pub good : Tells g s.files.disk → IsGoodRun (superblock_of s.opened) s.opened.meta.number (opening_of s) s.history
  pub packed : ArePacked (superblock_of s.opened) (just_opened s.opened.meta.number (opening_of s)) s.history
  pub faultless : s.files.failed ≡ false → has_fault s.history ≡ false
  pub failure : TellsFailure g s
  pub state : s.files.failed ≡ false → state_of s ≡ state_by (superblock_of s.opened) (just_opened s.opened.meta.number (opening_of s)) s.history
