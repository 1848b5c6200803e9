-- When an image holds a catalog: where its parts do, and where another image does.
use Rattle.std.proofs.Common.{◌≡◌, ℕ, ◌+◌, ◌-◌, ◌≤◌, List, ◌++◌, length, refl, ◌∙◌, ap, arith}
use Rattle.disk_model.specs.Images.{part}
use Rattle.disk_model.proofs.Parts.{part_split}
use Rattle.hsm_types.specs.Limits.{last_number}
use Rattle.commit_slots.specs.declared.places.Slot.TheVariants.{First}
use Rattle.commit_slots.specs.Places.{layout_of, snapshot_at, select_at, superblock_len}
use Rattle.commit_slots.specs.Images.{slot_of, gate_closed, IsStore}
use Rattle.commit_slots.proofs.Laid.{laid, IsSlot, slot_laid}
use Rattle.commit_slots.proofs.Switches.{slot_from}
use Rattle.meta_store.specs.Catalogs.{Catalog, IsCatalog, AreLengths}
use Rattle.snapshot_text.specs.Snapshots.{spelling}
use Rattle.meta_store.specs.Snapshots.{snapshot_of}
use Rattle.meta_store.specs.Images.{Place, Holds, area_of, gate_of}
use Rattle.meta_store.proofs.SnapshotFits.{fits_of}

-- a catalog's snapshot in front of the selected area, and a closed gate
pub image_from : (fsid : ℕ) (place : Place) (n : ℕ) (x : Catalog) (image c : List ℕ) → IsStore x.geometry fsid c → slot_of c ≡ place.slot → image ≡ spelling (snapshot_of n x) → length image ≤ (layout_of x.geometry).snapshot_len
    → part c (snapshot_at (layout_of x.geometry) (slot_of c)) (length image) ≡ image → gate_of x.geometry c ≡ gate_closed → IsCatalog x → AreLengths x → n ≤ last_number → Holds fsid place n x c
unfolding area_of
image_from fsid place n x image c store select is short holds gate lawful lengths bound =
    let at : ℕ = snapshot_at (layout_of x.geometry) (slot_of c) in
    let behind : List ℕ = part c (at + length image) ((layout_of x.geometry).snapshot_len - length image) in
    let area : area_of x.geometry c ≡ spelling (snapshot_of n x) ++ behind = part_split c at (length image) (layout_of x.geometry).snapshot_len short ∙ ap (λ (b : List ℕ). b ++ behind) (holds ∙ is) in
    record {
      found = store;
      select = select;
      snapshot = record { number = bound; catalog = lawful; lengths = lengths; spelled = record { fits = fits_of n x bound lawful; rest = behind; spelled = area } };
      gate = rw gate refl;
    }

-- the same length, superblock, selected slot, its snapshot and the gate of its journal
pub image_same : (fsid : ℕ) (place : Place) (n : ℕ) (x : Catalog) (d c : List ℕ) → length c ≡ length d → slot_of c ≡ slot_of d → part c 0 superblock_len ≡ part d 0 superblock_len → area_of x.geometry c ≡ area_of x.geometry d → gate_of x.geometry c ≡ gate_of x.geometry d
    → Holds fsid place n x d → Holds fsid place n x c
image_same fsid place n x d c size select head area gate is = record {
  found = record { superblock = rw head is.found.superblock; size = size ∙ is.found.size };
  select = select ∙ is.select;
  snapshot = rw area is.snapshot;
  gate = rw gate is.gate;
}

-- the same bytes before the data blocks
abbrev pub IsSameBelow : ℕ → List ℕ → List ℕ → Type 0
IsSameBelow blocks d c = (a k : ℕ) → a + k ≤ blocks → part c a k ≡ part d a k

slot_below : (geometry : ℕ) (d c : List ℕ) → IsSameBelow (layout_of geometry).blocks d c → slot_of c ≡ slot_of d
slot_below geometry d c same = let h : IsSlot (layout_of geometry) First = slot_laid (layout_of geometry) (laid geometry) First in slot_from c d (same select_at 1 (omega arith))

-- An image holds the same, at the same place, where only data blocks differ. This is all that the layers above know of a place.
pub image_beside : (geometry fsid : ℕ) (place : Place) (n : ℕ) (x : Catalog) (d c : List ℕ) → x.geometry ≡ geometry → length c ≡ length d → IsSameBelow (layout_of geometry).blocks d c → Holds fsid place n x d → Holds fsid place n x c
unfolding area_of gate_of
image_beside geometry fsid place n x d c there size same is =
    let h : IsSlot (layout_of geometry) (slot_of d) = slot_laid (layout_of geometry) (laid geometry) (slot_of d) in
    let select = slot_below geometry d c same in
    image_same fsid place n x d c size select (same 0 superblock_len (omega arith)) (rw (there, select) (same _ _ (omega arith))) (rw (there, select) (same _ _ (omega arith))) is
