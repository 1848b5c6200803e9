-- A store of files on a disk, and what recovery finds on an image.
use Rattle.std.specs.Prelude.{◌≡◌, ◌⊎◌, ℕ, ◌≤◌, Bool, true, false, List, length, map, replicate, slice_index_or, is_some, Result}
use Rattle.std.specs.Option.{option_map}
use Rattle.std.specs.List.{AllByRecursion}
use Rattle.std.specs.Result.{IsErrOf}
use Rattle.disk_model.specs.Calls.{Counts}
use Rattle.disk_model.specs.Moments.{MayBe, LeavesOnly}
use Rattle.disk_model.specs.declared.device.Disk as disk
use Rattle.hsm_types.specs.Limits.{last_generation}
use Rattle.hsm_types.specs.declared.stores.Superblock.{Superblock}
use Rattle.hsm_types.specs.declared.keys.FileKey.{FileKey}
use Rattle.hsm_types.specs.Kept.{Kept}
use Rattle.hsm_types.specs.Stubs.{AreStubs}
use Rattle.hsm_types.specs.Keyed.{find_key}
use Rattle.plain_model.specs.State.{FileState, Held, names_of, used_by, used}
use Rattle.plain_model.specs.Laws.{IsOpening}
use Rattle.block_space.specs.Space.{Space, marked}
use Rattle.inode_table.specs.Table.{IsTable}
use Rattle.snapshot_text.specs.Files.{CatalogFile, geometry_of, present}
use Rattle.meta_store.specs.Catalogs.{Catalog, blocks_of}
use Rattle.meta_store.specs.Catalogs.{names_of as names_in}
use Rattle.meta_store.specs.Images.{IsImage, blocks_in_image}
use Rattle.meta_store.specs.Meta.{Meta, IsMeta, Backs}
use Rattle.snapshot_text.specs.declared.refusal.MetaRefusal.{MetaRefusal}
use Rattle.snapshot_text.specs.declared.refusal.MetaRefusal.TheVariants.{Disk}
use Rattle.file_store.specs.Bodies.{held_at}

-- Recovery finds this under that number: the catalog of the image, with the bytes of its data blocks.
pub record IsRecovered (geometry fsid n : ℕ) (h : Held) (image : List ℕ) : Type 0 where
  pub catalog : Catalog
  pub same : catalog.geometry ≡ geometry
  pub is : IsImage fsid n catalog image
  pub holds : held_at (blocks_in_image geometry image) catalog ≡ h

-- the stub entries of a file are lawful
abbrev pub IsStubbed : FileState → Type 0
IsStubbed f = AreStubs (length f.body) f.kept.regions f.kept.stubs

-- What is true of what each store of so many files holds: inodes ascend and are within that number, names differ, each generation is
-- below the next one, and stub entries are lawful.
pub record IsLawful (limit : ℕ) (h : Held) : Type 0 where
  pub table : IsTable limit h.next (names_of h.files)
  pub opening : IsOpening h
  pub next : h.next ≤ last_generation
  pub few : length h.files ≤ limit
  pub stubs : AllByRecursion IsStubbed h.files

pub record Store (D : Type 0) : Type 0 where
  pub disk : D
  -- the names, sizes and block places: as they are, and as they were made durable
  pub meta : Meta
  -- what it holds, and what was made durable
  pub held : Held
  pub durable : Held
  -- which blocks are used, as it is and as it was made durable
  pub space : Space
  -- a call of the disk has failed
  pub failed : Bool

-- how it was formatted
abbrev pub superblock_of : {D : Type 0} → Store D → Superblock
superblock_of s = record { geometry = geometry_of s.meta.durable.geometry; fsid = s.meta.fsid }

-- recovery finds what was made durable last
abbrev pub IsDurable : {D : Type 0} → Store D → List ℕ → Type 0
IsDurable s image = IsRecovered s.meta.durable.geometry s.meta.fsid s.meta.number s.durable image

-- or what is held, under that number
abbrev pub IsEither : {D : Type 0} → Store D → ℕ → List ℕ → Type 0
IsEither s n image = IsDurable s image ⊎ IsRecovered s.meta.durable.geometry s.meta.fsid n s.held image

-- What every call does to the disk, after a failure too: at each moment in it, and after it, a crash leaves what was durable before, or what
-- was held before under that number.
pub record Proceeds {D : Type 0} (g : disk.Ghosts D) (old : Store D) (n : ℕ) (new : Store D) : Type 0 where
  pub geometry : new.meta.durable.geometry ≡ old.meta.durable.geometry
  pub fsid : new.meta.fsid ≡ old.meta.fsid
  pub moments : LeavesOnly g old.disk new.disk (IsEither old n)
  pub now : (c : List ℕ) → MayBe g new.disk c → IsEither old n c
  pub durable : (new.meta.number ≡ old.meta.number) × (new.durable ≡ old.durable) ⊎ (new.meta.number ≡ n) × (new.durable ≡ old.held)

-- A call of the disk failed exactly where that is answered, and then the store is closed.
pub record TellsFaults {D T : Type 0} (g : disk.Ghosts D) (result : Result T MetaRefusal) (old new : Store D) : Type 0 where
  pub closes : IsErrOf result Disk → new.failed ≡ true
  pub counts : Counts (IsErrOf result Disk) (g.fault_count old.disk) (g.fault_count new.disk)

-- ---- what is true of each store

-- the marks of the blocks that a catalog uses
abbrev pub marks_of : Catalog → List Bool
marks_of c = marked (blocks_of c.files) (replicate (geometry_of c.geometry).blocks false)

-- as long as no call has failed
pub record IsLive {D : Type 0} (g : disk.Ghosts D) (s : Store D) : Type 0 where
  pub backs : Backs g s.disk s.meta
  -- what may be on the disk has the bytes that were made durable
  pub stored : (c : List ℕ) → MayBe g s.disk c → held_at (blocks_in_image s.meta.durable.geometry c) s.meta.durable ≡ s.durable
  -- what reads give has those that are held
  pub current : (c : List ℕ) → g.gives s.disk c → held_at (blocks_in_image s.meta.durable.geometry c) s.meta.current ≡ s.held
  -- of the files as they are the marks are exact; what was made durable has all of its marks, and may have more
  pub marks : s.space.current ≡ marks_of s.meta.current
  pub marked : AllByRecursion (λ b. slice_index_or s.space.durable b false ≡ true) (blocks_of s.meta.durable.files)

pub record IsSound {D : Type 0} (g : disk.Ghosts D) (s : Store D) : Type 0 where
  pub meta : IsMeta s.meta
  pub live : s.failed ≡ false → IsLive g s

-- ---- what readers of the catalog tell

-- of a file, beside its key and its name
pub record Told : Type 0 where
  pub size : ℕ
  -- how many of its blocks are mapped
  pub mapped : ℕ
  pub kept : Kept

abbrev pub told_of : CatalogFile → Told
told_of f = record { size = f.size; mapped = length (present f.places); kept = f.kept }

abbrev pub told_held : FileState → Told
told_held f = record { size = length f.body; mapped = used_by f; kept = f.kept }

-- what stands of a file in a table of all
pub record Row : Type 0 where
  pub key : FileKey
  pub size : ℕ
  -- for each block whether it is mapped
  pub mapped : List Bool
  pub kept : Kept

abbrev pub row_of : CatalogFile → Row
row_of f = record { key = f.key; size = f.size; mapped = map is_some f.places; kept = f.kept }

abbrev pub row_held : FileState → Row
row_held f = record { key = f.key; size = length f.body; mapped = f.mapped; kept = f.kept }

-- The catalog tells of what is held all but its bytes.
pub record Shows (c : Catalog) (h : Held) : Type 0 where
  pub next : c.next ≡ h.next
  pub names : names_in c.files ≡ names_of h.files
  pub found : (key : FileKey) → option_map told_of (find_key (λ f. f.key) key c.files) ≡ option_map told_held (find_key (λ f. f.key) key h.files)
  pub rows : map row_of c.files ≡ map row_held h.files
  pub used : length (blocks_of c.files) ≡ used h.files
