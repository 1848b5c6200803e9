-- What the image of a disk holds of a store with a journal.
use Rattle.std.specs.Prelude.{◌≡◌, ◌⊎◌, ℕ, List}
use Rattle.disk_model.specs.Images.{part}
use Rattle.commit_slots.specs.declared.places.Slot.{Slot}
use Rattle.commit_slots.specs.Places.{layout_of, snapshot_at, journal_at}
use Rattle.commit_slots.specs.Images.{slot_of, IsStore}
use Rattle.meta_store.specs.Catalogs.{Catalog, IsCatalog}
use Rattle.meta_store.specs.Snapshots.{snapshot_of, IsSnapshot}
use Rattle.meta_store.specs.Images.{area_of}
use Rattle.journal_fold.specs.Folds.{IsFolded, IsFaultyAt}

-- where the selected journal begins, and its bytes
abbrev pub journal_place : ℕ → List ℕ → ℕ
journal_place geometry image = journal_at (layout_of geometry) (slot_of image)

unfoldable pub journal_of : ℕ → List ℕ → List ℕ
journal_of geometry image = part image (journal_place geometry image) (layout_of geometry).journal_len

-- the selected snapshot and its journal say this store, and the journal's batches fill so many bytes
pub record SaysFolded (geometry : ℕ) (used n : ℕ) (c : Catalog) (image : List ℕ) : Type 0 where
  pub first : ℕ
  pub from : Catalog
  pub kind : from.geometry ≡ geometry
  pub snapshot : IsSnapshot (area_of geometry image) first from
  pub folded : IsFolded geometry (snapshot_of first from) (journal_place geometry image) (journal_of geometry image) used (snapshot_of n c)

-- Where a store stands on its disk: its selected slot, and how many bytes its batches fill.
pub record JournalPlace : Type 0 where
  pub slot : Slot
  pub used : ℕ

-- The image holds this number and this catalog, and their store stands there: one of the catalog's geometry, whose selected snapshot says the store from
-- before the batches of its journal.
pub record HoldsFolded (fsid : ℕ) (place : JournalPlace) (n : ℕ) (c : Catalog) (image : List ℕ) : Type 0 where
  pub found : IsStore c.geometry fsid image
  pub select : slot_of image ≡ place.slot
  pub catalog : IsCatalog c
  pub says : SaysFolded c.geometry place.used n c image

-- Opening refuses the image at this place: the selected snapshot isn't a valid one, or it is, and the first open batch of its journal that isn't valid has
-- its gate there.
pub record IsFoldCorruptAt (place : ℕ) (image : List ℕ) : Type 0 where
  pub geometry : ℕ
  pub fsid : ℕ
  pub found : IsStore geometry fsid image
  pub fault : ((place ≡ snapshot_at (layout_of geometry) (slot_of image)) × ((n : ℕ) (c : Catalog) → c.geometry ≡ geometry → IsSnapshot (area_of geometry image) n c → ⊥))
      ⊎ ((n : ℕ) × (c : Catalog) × (c.geometry ≡ geometry) × IsSnapshot (area_of geometry image) n c × IsFaultyAt geometry (snapshot_of n c) (journal_place geometry image) (journal_of geometry image) place)
