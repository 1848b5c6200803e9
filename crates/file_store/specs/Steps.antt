-- What writes of data blocks do to images.
use Rattle.std.specs.Prelude.{◌≡◌, ℕ, ◌+◌, ◌*◌, List, length, map, Some}
use Rattle.std.specs.List.{AllByRecursion}
use Rattle.disk_model.specs.declared.device.Disk as disk
use Rattle.disk_model.specs.Images.{part, Alike, Follows}
use Rattle.disk_model.specs.Moments.{Keeps, Same}
use Rattle.commit_slots.specs.Places.{IsApart, layout_of}
use Rattle.hsm_types.specs.Limits.{block_bytes}
use Rattle.hsm_types.specs.declared.keys.FileKey.{FileKey}
use Rattle.hsm_types.specs.Keyed.{find_key}
use Rattle.plain_model.specs.Plain.{rebody}
use Rattle.block_space.specs.Space.{Space}
use Rattle.journal_records.specs.declared.records.Record.{Record}
use Rattle.snapshot_text.specs.Files.{CatalogFile}
use Rattle.meta_store.specs.Catalogs.{Catalog}
use Rattle.snapshot_text.specs.declared.snapshot.Mapping.{Mapping}
use Rattle.file_store.specs.Bodies.{block_of}
use Rattle.file_store.specs.declared.rewrites.Rewrite.{Rewrite}
use Rattle.file_store.specs.Rewrites.{effect_of, new_size, touched_of, places_for, mappings_of, IsRewriting, freed_by}

-- what reads leave: no image has changed
abbrev pub OnlyReads : {D : Type 0} → disk.Ghosts D → D → D → Type 0
OnlyReads g old new = Keeps g old new Same × Alike (g.gives old) (g.gives new)

-- where blocks lie
abbrev pub places_of : List Mapping → List ℕ
places_of mappings = map (λ m. m.place) mappings

-- all is the same but for the blocks at these places; block 0 begins at base
pub record IsBesideBlocks (base : ℕ) (places : List ℕ) (old new : List ℕ) : Type 0 where
  pub size : length new ≡ length old
  pub same : (a k : ℕ) → AllByRecursion (λ p. IsApart a k (base + block_bytes * p) block_bytes) places → part new a k ≡ part old a k

-- these blocks of the body lie at their places, and all else is the same
pub record HasBlocks (base : ℕ) (body : List ℕ) (mappings : List Mapping) (old new : List ℕ) : Type 0 where
  pub beside : IsBesideBlocks base (places_of mappings) old new
  pub there : AllByRecursion (λ m. part new (base + block_bytes * m.place) block_bytes ≡ block_of body m.block) mappings

-- The blocks of a change of a file's bytes lie at the lowest free places: what its records are, what they free, and what reads give.
pub record IsStaged {D : Type 0} (g : disk.Ghosts D) (old new : D) (c : Catalog) (k : FileKey) (change : Rewrite) (body : List ℕ) (space : Space) (records : List Record) (freed : List ℕ) : Type 0 where
  pub rewriting : (f : CatalogFile) → find_key (λ f. f.key) k c.files ≡ Some f → IsRewriting k.ino change (length body) f.kept.stubs (mappings_of (touched_of change body) (places_for change body space)) records
  pub frees : (f : CatalogFile) → find_key (λ f. f.key) k c.files ≡ Some f → freed ≡ freed_by (new_size change body) (touched_of change body) f.places
  pub written : Follows (HasBlocks (layout_of c.geometry).blocks (rebody (effect_of change) body) (mappings_of (touched_of change body) (places_for change body space))) (g.gives old) (g.gives new)
