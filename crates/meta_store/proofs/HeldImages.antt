-- What is known of an image on which recovery finds something.
use Rattle.std.proofs.Common.{◌≡◌, ◌⊎◌, ⊎_elim, ℕ, List, length, sym, ◌∙◌, subst}
use Rattle.commit_slots.specs.Places.{layout_of}
use Rattle.commit_slots.specs.Images.{IsStore}
use Rattle.meta_store.specs.Catalogs.{Catalog, IsCatalog}
use Rattle.meta_store.specs.Snapshots.{IsSnapshot}
use Rattle.meta_store.specs.Images.{IsImage, IsCorruptAt, IsClosed, area_of, gate_of}

module _ {fsid n : ℕ} {c : Catalog} {image : List ℕ} (is : IsImage fsid n c image) where
  pub image_store : IsStore c.geometry fsid image
  image_store = is.holds.found

  pub image_size : length image ≡ (layout_of c.geometry).whole
  image_size = is.holds.found.size

  pub image_lawful : IsCatalog c
  image_lawful = is.holds.snapshot.catalog

  -- it isn't corrupt
  pub not_corrupt : (place : ℕ) → IsCorruptAt place image → ⊥
  not_corrupt place corrupt =
      let same : c.geometry ≡ corrupt.geometry = sym is.holds.found.superblock.says_geometry ∙ corrupt.found.superblock.says_geometry in
      let snapshot : IsSnapshot (area_of corrupt.geometry image) n c = subst (λ (geometry : ℕ). IsSnapshot (area_of geometry image) n c) same is.holds.snapshot in
      let gate : IsClosed (gate_of corrupt.geometry image) = subst (λ (geometry : ℕ). IsClosed (gate_of geometry image)) same is.holds.gate in
      ⊎_elim (λ fault. fault.1 n c same snapshot) (λ fault. fault.1 gate) corrupt.fault
