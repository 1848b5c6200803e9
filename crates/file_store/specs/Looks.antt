-- Calls that only look at files.
use Rattle.std.specs.Prelude.{◌≡◌, ℕ, None, Result}
use Rattle.disk_model.specs.declared.device.Disk as disk
use Rattle.snapshot_text.specs.declared.refusal.MetaRefusal.{MetaRefusal}
use Rattle.file_store.specs.Stores.{Store}
use Rattle.file_store.specs.Steps.{OnlyReads}
use Rattle.file_store.specs.Changes.{Ends}

-- The disk was at most read, and all is held and durable as before. Want of memory or a fault of the disk may refuse it.
pub record Looks {D T : Type 0} (g : disk.Ghosts D) (old : Store D) (result : Result T MetaRefusal) (new : Store D) : Type 0 where
  pub reads : OnlyReads g old.disk new.disk
  pub meta : new.meta ≡ old.meta
  pub held : new.held ≡ old.held
  pub durable : new.durable ≡ old.durable
  pub space : new.space ≡ old.space
  pub ends : (n : ℕ) → Ends g old n None result new
