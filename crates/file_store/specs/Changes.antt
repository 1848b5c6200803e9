-- How a call ends that changes a store.
use Rattle.std.specs.Prelude.{◌≡◌, ℕ, false, Option, Some, None, Result, OnOk}
use Rattle.std.specs.Result.{IsErrOf}
use Rattle.disk_model.specs.declared.device.Disk as disk
use Rattle.hsm_types.specs.declared.dm.DmRefusal.{DmRefusal}
use Rattle.hsm_types.specs.declared.keys.FileKey.{FileKey}
use Rattle.plain_model.specs.Effects.{Effect}
use Rattle.plain_model.specs.State.{affected_held}
use Rattle.snapshot_text.specs.declared.refusal.MetaRefusal.{MetaRefusal}
use Rattle.snapshot_text.specs.declared.refusal.MetaRefusal.TheVariants.{Part, Memory}
use Rattle.file_store.specs.Stores.{Store, Proceeds, TellsFaults}

-- By what refuses it, if anything does: then it isn't done, no other refusal is told, and where that one is told all is as before. Without memory all is
-- held as before, and the store works; a fault of the disk closes it. However it ends, it proceeds under that number.
pub record Ends {D T : Type 0} (g : disk.Ghosts D) (old : Store D) (n : ℕ) (refusal : Option DmRefusal) (result : Result T MetaRefusal) (new : Store D) : Type 0 where
  pub judged : OnOk result (refusal ≡ None)
  pub refused : (why : DmRefusal) → IsErrOf result (Part why) → refusal ≡ Some why
  pub unchanged : (why : DmRefusal) → IsErrOf result (Part why) → new ≡ old
  pub working : OnOk result (new.failed ≡ false)
  pub memory : IsErrOf result Memory → (new.held ≡ old.held) × (new.failed ≡ false)
  pub faults : TellsFaults g result old new
  pub proceeds : Proceeds g old n new

-- A change of the file with that key ends so, and is done by that effect.
pub record Changes {D T : Type 0} (g : disk.Ghosts D) (old : Store D) (n : ℕ) (key : FileKey) (effect : Effect) (refusal : Option DmRefusal) (result : Result T MetaRefusal) (new : Store D) : Type 0 where
  pub held : OnOk result (new.held ≡ record old.held { files = affected_held effect key old.held.files })
  pub ends : Ends g old n refusal result new
