-- What the image of a disk holds for recovery, and what steps between images keep of it.
use Rattle.std.specs.Prelude.{◌≡◌, ◌⊎◌, ℕ, ◌==◌, false, List, get_or}
use Rattle.disk_model.specs.Images.{part}
use Rattle.commit_slots.specs.declared.places.Slot.{Slot}
use Rattle.commit_slots.specs.Places.{layout_of, snapshot_at, journal_at}
use Rattle.commit_slots.specs.Images.{slot_of, IsStore}
use Rattle.meta_store.specs.Catalogs.{Catalog}
use Rattle.meta_store.specs.Snapshots.{IsSnapshot}

-- the selected snapshot's area
unfoldable pub area_of : ℕ → List ℕ → List ℕ
area_of geometry image = part image (snapshot_at (layout_of geometry) (slot_of image)) (layout_of geometry).snapshot_len

-- the first gate of the selected journal
unfoldable pub gate_of : ℕ → List ℕ → List ℕ
gate_of geometry image = part image (journal_at (layout_of geometry) (slot_of image)) 1

-- a gate is open where its byte is 1
abbrev pub IsClosed : List ℕ → Type 0
IsClosed gate = (get_or gate 0 0 == 1) ≡ false

-- Where a store stands on its disk: its selected slot. No layer above looks into it.
pub record Place : Type 0 where
  pub slot : Slot

-- The image holds this number and this catalog, and their store stands there: one of the catalog's geometry, whose selected snapshot says so and whose
-- selected journal is empty.
pub record Holds (fsid : ℕ) (place : Place) (n : ℕ) (c : Catalog) (image : List ℕ) : Type 0 where
  pub found : IsStore c.geometry fsid image
  pub select : slot_of image ≡ place.slot
  pub snapshot : IsSnapshot (area_of c.geometry image) n c
  pub gate : IsClosed (gate_of c.geometry image)

-- Recovery finds this number and this catalog, wherever the store stands.
pub record IsImage (fsid n : ℕ) (c : Catalog) (image : List ℕ) : Type 0 where
  pub place : Place
  pub holds : Holds fsid place n c image

-- the data blocks
unfoldable pub blocks_in_image : ℕ → List ℕ → List ℕ
blocks_in_image geometry image = part image (layout_of geometry).blocks (layout_of geometry).blocks_len

-- recovery finds this, and the data blocks are the same
pub record Recovers (fsid n : ℕ) (c : Catalog) (old new : List ℕ) : Type 0 where
  pub found : IsImage fsid n c new
  pub data_blocks : blocks_in_image c.geometry new ≡ blocks_in_image c.geometry old

-- Opening refuses the image at this place: the selected snapshot isn't a valid one, or it is, and the selected journal's first gate is open.
pub record IsCorruptAt (place : ℕ) (image : List ℕ) : Type 0 where
  pub geometry : ℕ
  pub fsid : ℕ
  pub found : IsStore geometry fsid image
  pub fault : (place ≡ snapshot_at (layout_of geometry) (slot_of image)) × ((n : ℕ) (c : Catalog) → c.geometry ≡ geometry → IsSnapshot (area_of geometry image) n c → ⊥)
      ⊎ (place ≡ journal_at (layout_of geometry) (slot_of image)) × (IsClosed (gate_of geometry image) → ⊥)
      × (n : ℕ) × (c : Catalog) × (c.geometry ≡ geometry) × IsSnapshot (area_of geometry image) n c
