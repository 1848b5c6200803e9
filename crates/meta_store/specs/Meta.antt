-- What a store keeps beside bodies, in memory and on its disk.
use Rattle.std.specs.Prelude.{◌≡◌, ℕ, ◌≤◌, List, None}
use Rattle.disk_model.specs.Moments.{MayBe, Turns}
use Rattle.disk_model.specs.declared.device.Disk as disk
use Rattle.hsm_types.specs.Limits.{last_number}
use Rattle.commit_slots.specs.Places.{layout_of}
use Rattle.meta_store.specs.Catalogs.{Catalog, IsCatalog, AreLengths}
use Rattle.meta_store.specs.Images.{Place, Holds, Recovers}
use Rattle.journal_records.specs.declared.records.Record.{Record}
use Rattle.meta_store.specs.Records.{after_all, refusal_of_all}

pub record Meta : Type 0 where
  -- where it stands on its disk
  pub place : Place
  pub fsid : ℕ
  -- what the last commit stored, and under which number
  pub number : ℕ
  pub durable : Catalog
  -- with all changes since
  pub current : Catalog

-- what was stored is lawful, and of the geometry of the files as they are; and each stub entry has the length of its segment
pub record IsStored (m : Meta) : Type 0 where
  pub number : m.number ≤ last_number
  pub catalog : IsCatalog m.durable
  pub geometry : m.current.geometry ≡ m.durable.geometry
  pub lengths : AreLengths m.durable
  pub now : AreLengths m.current

-- so are the files as they are
pub record IsMeta (m : Meta) : Type 0 where
  pub stored : IsStored m
  pub current : IsCatalog m.current

-- From what may be on the disk recovery finds what the last commit stored.
pub record Backs {D : Type 0} (g : disk.Ghosts D) (d : D) (m : Meta) : Type 0 where
  pub length : g.length_of d ≡ (layout_of m.durable.geometry).whole
  pub image : (c : List ℕ) → MayBe g d c → Holds m.fsid m.place m.number m.durable c

-- ---- what a call stores

-- At each moment recovery finds what the last commit stored, or the files as they were before the call, under that number.
abbrev pub StoresOrKeeps : {D : Type 0} → disk.Ghosts D → D → D → Meta → ℕ → Type 0
StoresOrKeeps g old new m n = Turns g old new (Recovers m.fsid m.number m.durable) (Recovers m.fsid n m.current)

-- from now on it finds the files as they were before the call
abbrev pub HasStored : {D : Type 0} → disk.Ghosts D → D → D → Meta → ℕ → Type 0
HasStored g old new m n = (c : List ℕ) → MayBe g new c → (d : List ℕ) × g.gives old d × Recovers m.fsid n m.current d c

-- what is known of it then
pub record IsStoredNow (old : Meta) (n : ℕ) (new : Meta) : Type 0 where
  pub fsid : new.fsid ≡ old.fsid
  pub number : new.number ≡ n
  pub durable : new.durable ≡ old.current

-- the records are taken, whatever is stored
pub record IsTaken (records : List Record) (old new : Meta) : Type 0 where
  pub judged : refusal_of_all records old.current ≡ None
  pub current : new.current ≡ after_all records old.current
