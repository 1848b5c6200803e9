-- A switch of slots, in the words of what recovery finds.
use Rattle.std.proofs.Common.{◌≡◌, inl, inr, ℕ, ◌≤◌, List, length, refl, sym, ◌∙◌, ap, arith}
use Rattle.disk_model.specs.declared.device.Disk as disk
use Rattle.disk_model.specs.Images.{part}
use Rattle.disk_model.specs.Moments.{MayBe, Turns}
use Rattle.disk_model.proofs.Parts.{part_part}
use Rattle.disk_model.proofs.Steps.{started, turned_where}
use Rattle.hsm_types.specs.Limits.{last_number}
use Rattle.commit_slots.specs.declared.places.Slot.{Slot}
use Rattle.commit_slots.specs.Places.{other, layout_of}
use Rattle.commit_slots.specs.Images.{IsStore}
use Rattle.commit_slots.specs.Steps.{Selects, IsOutside, KeepsSlot, IsSwitched}
use Rattle.commit_slots.proofs.Laid.{laid}
use Rattle.commit_slots.proofs.Kept.{KeepsParts, parts_kept}
use Rattle.meta_store.specs.Catalogs.{Catalog}
use Rattle.snapshot_text.specs.Snapshots.{spelling}
use Rattle.meta_store.specs.Snapshots.{snapshot_of}
use Rattle.meta_store.specs.Images.{Place, Holds, area_of, gate_of, blocks_in_image, Recovers}
use Rattle.meta_store.specs.Meta.{Meta, IsMeta, Backs, StoresOrKeeps, HasStored}
use Rattle.meta_store.proofs.BesideBlocks.{image_from, image_same}

-- the first byte of a part
gate_from : (at n : ℕ) (d c : List ℕ) → 1 ≤ n → part c at n ≡ part d at n → part c at 1 ≡ part d at 1
gate_from at n d c long same = sym (front c) ∙ ap (λ (l : List ℕ). part l 0 1) same ∙ front d
  where
    front : (image : List ℕ) → part (part image at n) 0 1 ≡ part image at 1
    front image = part_part image at n 0 1 (omega arith) ∙ ap (λ (k : ℕ). part image k 1) (omega arith)

-- no call of the disk
pub stores_nothing : {D : Type 0} (g : disk.Ghosts D) (d : D) (m : Meta) (n : ℕ) → Backs g d m → ((c : List ℕ) → g.left_since d (g.moment d) c → g.may_leave d c) → StoresOrKeeps g d d m n
stores_nothing g d m n backs only_now = record {
  moments = started g d _ (λ c left. inl (c, inl (only_now c left), here c (inl (only_now c left))));
  now = λ c may. inl (c, may, here c may);
}
  where
    here : (c : List ℕ) → MayBe g d c → Recovers m.fsid m.number m.durable c c
    here c may = record { found = record { place = m.place; holds = backs.image c may }; data_blocks = refl }

-- where a store stands whose slot that is
abbrev pub place_on : Slot → Place
place_on slot = record { slot = slot }

-- the slots have stored the image
abbrev pub HasSwitched : {D : Type 0} → disk.Ghosts D → D → D → ℕ → Slot → List ℕ → Type 0
HasSwitched g old new z slot image = (c : List ℕ) → MayBe g new c → (d : List ℕ) × g.gives old d × IsSwitched (layout_of z) (other slot) image d c

-- what a commit of m is, and once its slots are done
pub record Commits {D : Type 0} (g : disk.Ghosts D) (old new : D) (m : Meta) (number : ℕ) (Done : Type 0) : Type 0 where
  pub turns : StoresOrKeeps g old new m number
  pub stores : Done → HasStored g old new m number
  pub backs : Done → (after : Meta) → after.place ≡ place_on (other m.place.slot) → after.fsid ≡ m.fsid → after.number ≡ number → after.durable ≡ m.current → Backs g new after

-- A commit of the current catalog, from a disk that backs m. The slots know the geometry as z.
module _ {D : Type 0} (g : disk.Ghosts D) (old new : D) (m : Meta) (lawful : IsMeta m) (backs : Backs g old m) (number : ℕ) (bound : number ≤ last_number) (z : ℕ) (geometry : z ≡ m.current.geometry) (image : List ℕ)
    (is : image ≡ spelling (snapshot_of number m.current)) (short : length image ≤ (layout_of m.current.geometry).snapshot_len) where
  -- what is known of each old image
  abbrev Was : List ℕ → Type 0
  Was d = Holds m.fsid m.place m.number m.durable d

  durable_as : m.durable.geometry ≡ z
  durable_as = sym (geometry ∙ lawful.stored.geometry)

  kept : (d c : List ℕ) → IsOutside (layout_of z) (other m.place.slot) (length image) d c → KeepsParts (layout_of z) m.place.slot d c
  kept d c outside = parts_kept (layout_of z) (laid z) m.place.slot (length image) (rw geometry short) d c outside

  -- what was recovered from the old slot, where that is kept
  found_old : (d c : List ℕ) → Was d → KeepsSlot (layout_of z) m.place.slot (length image) d c → Recovers m.fsid m.number m.durable d c
  unfolding blocks_in_image area_of gate_of
  found_old d c known k =
      let same = kept d c k.outside in
      record {
        found = record {
          place = m.place;
          holds = image_same m.fsid m.place m.number m.durable d c k.outside.size k.select same.superblock (rw (durable_as, k.select, known.select) same.snapshot) (rw (durable_as, k.select, known.select) (gate_from _ _ d c (laid z).journal_len same.journal)) known;
        };
        data_blocks = rw durable_as same.blocks;
      }

  -- what the new slot holds
  holds_new : (d c : List ℕ) → Was d → IsSwitched (layout_of z) (other m.place.slot) image d c → Holds m.fsid (place_on (other m.place.slot)) number m.current c
  unfolding area_of gate_of
  holds_new d c known s =
      let same = kept d c s.outside in
      let was : IsStore z m.fsid d = rw durable_as at known.found in
      image_from m.fsid (place_on (other m.place.slot)) number m.current image c (rw (← geometry) (record { superblock = rw same.superblock was.superblock; size = s.outside.size ∙ was.size })) s.select is short (rw (← geometry, s.select) s.holds) (rw (← geometry, s.select) s.gate) lawful.current lawful.stored.now bound

  found_new : (d c : List ℕ) → Was d → IsSwitched (layout_of z) (other m.place.slot) image d c → Recovers m.fsid number m.current d c
  unfolding blocks_in_image
  found_new d c known s = record { found = record { place = place_on (other m.place.slot); holds = holds_new d c known s }; data_blocks = rw (← geometry) (kept d c s.outside).blocks }

  pub commits : (Selects g old m.place.slot → Turns g old new (KeepsSlot (layout_of z) m.place.slot (length image)) (IsSwitched (layout_of z) (other m.place.slot) image)) → Commits g old new m number (HasSwitched g old new z m.place.slot image)
  commits turned = record {
    turns = turned_where g old new Was _ _ _ _ backs.image found_old found_new (turned selects);
    stores = stored;
    backs = λ done after place fsid named durable. record {
      length = (turned selects).moments.length ∙ backs.length ∙ ap (λ (y : ℕ). (layout_of y).whole) (sym (ap (λ (c : Catalog). c.geometry) durable ∙ lawful.stored.geometry));
      image = λ c may. let d = done c may in rw (place, fsid, named, durable) (holds_new d.0 c (backs.image d.0 (inr d.1)) d.2);
    };
  }
    where
      selects : Selects g old m.place.slot
      selects d may = (backs.image d may).select

      stored : HasSwitched g old new z m.place.slot image → HasStored g old new m number
      stored done c may = let d = done c may in (d.0, d.1, found_new d.0 c (backs.image d.0 (inr d.1)) d.2)
