-- What an image holds, by what was read of it.
use Rattle.std.proofs.Common.{◌≡◌, inl, inr, ℕ, ◌+◌, ◌≤◌, List, sym, ◌∙◌, ap, subst, arith}
use Rattle.std.specs.Prelude.{Result, Ok, Err, IfOk, OnOk, IsErrOf}
use Rattle.disk_model.specs.Images.{part, Alike}
use Rattle.disk_model.specs.declared.refusal.OpenRefusal.{OpenRefusal}
use Rattle.disk_model.specs.declared.refusal.OpenRefusal.TheVariants.{Corrupt}
use Rattle.disk_model.specs.Moments.{MayBe, Keeps, Same}
use Rattle.disk_model.specs.declared.device.Disk as disk
use Rattle.commit_slots.specs.declared.places.Slot.{Slot}
use Rattle.commit_slots.specs.Places.{layout_of, snapshot_at, journal_at}
use Rattle.commit_slots.specs.Images.{slot_of, IsStore}
use Rattle.commit_slots.proofs.Laid.{laid, slot_laid, IsSlot}
use Rattle.meta_store.specs.Catalogs.{Catalog}
use Rattle.meta_store.specs.Snapshots.{IsSnapshot}
use Rattle.meta_store.specs.Images.{Holds, area_of, gate_of, IsClosed, IsCorruptAt}
use Rattle.meta_store.specs.Meta.{Meta, Backs}

-- the same error, of another function
pub err_on : {T U E : Type 0} {e v : E} → IsErrOf {T = T} {E = E} (Err e) v → IsErrOf {T = U} {E = E} (Err e) v
err_on {E} {e} {v} is = let same : e ≡ v = cc in ap (λ (x : E). Err x) same

pub place_is : {T : Type 0} (p q : ℕ) → IsErrOf {T = T} (Err (Corrupt p)) (Corrupt q) → p ≡ q
place_is p q is = cc

-- what loading says of an image that reads give
pub record Says (geometry fsid : ℕ) (slot : Slot) (area image : List ℕ) : Type 0 where
  pub store : IsStore geometry fsid image
  pub select : slot_of image ≡ slot
  pub holds : area ≡ part image (snapshot_at (layout_of geometry) slot) (layout_of geometry).snapshot_len

pub gate_fits : (geometry : ℕ) (slot : Slot) → journal_at (layout_of geometry) slot + 1 ≤ (layout_of geometry).whole
gate_fits geometry slot = let here : IsSlot (layout_of geometry) slot = slot_laid (layout_of geometry) (laid geometry) slot in omega arith

module _ {geometry fsid : ℕ} {slot : Slot} {area image : List ℕ} (s : Says geometry fsid slot area image) (place : ℕ) where
  pub snapshot_corrupt : place ≡ snapshot_at (layout_of geometry) slot → ((n : ℕ) (c : Catalog) → c.geometry ≡ geometry → IsSnapshot area n c → ⊥) → IsCorruptAt place image
  unfolding area_of
  snapshot_corrupt at invalid = record { geometry = geometry; fsid = fsid; found = s.store; fault = inl (rw s.select at, λ n c same is. invalid n c same (rw (s.holds, ← s.select) is)) }

  module _ (at : place ≡ journal_at (layout_of geometry) slot) (n : ℕ) (c : Catalog) (same : c.geometry ≡ geometry) (is : IsSnapshot area n c) where
    pub gate_corrupt : (IsClosed (part image place 1) → ⊥) → IsCorruptAt place image
    unfolding area_of gate_of
    gate_corrupt gate = record {
      geometry = geometry;
      fsid = fsid;
      found = s.store;
      fault = inr (rw s.select at, λ closed. gate (rw (at, ← s.select) closed), n, c, same, rw (s.select, ← s.holds) is);
    }

    pub image_found : IsClosed (part image place 1) → Holds fsid (record { slot = slot }) n c image
    unfolding area_of gate_of
    image_found gate = record { found = rw same s.store; select = s.select; snapshot = subst (λ (y : ℕ). IsSnapshot (area_of y image) n c) (sym same) (rw (s.select, ← s.holds) is); gate = rw (same, s.select, ← at) gate }

-- after a sync that succeeded, what was read is what may be
module _ {D : Type 0} (g : disk.Ghosts D) (mid new : D) (durable : (c : List ℕ) → MayBe g mid c → g.gives mid c) (keeps : Keeps g mid new Same) where
  before : (c : List ℕ) → MayBe g new c → g.gives mid c
  before c may = let d = keeps.now c may in rw d.2 (durable d.0 d.1)

  pub backs_read : (r : Result Meta OpenRefusal) → IfOk r (λ m. g.length_of mid ≡ (layout_of m.durable.geometry).whole) → IfOk r (λ m. (c : List ℕ) → g.gives mid c → Holds m.fsid m.place m.number m.durable c)
      → IfOk r (λ m. Backs g new m)
  backs_read (Ok m) length found = record { length = keeps.moments.length ∙ length; image = λ c may. found c (before c may) }
  backs_read (Err e) length found = tt

  pub synced_read : (old : D) (r : Result Meta OpenRefusal) → Alike (g.gives old) (g.gives mid) → OnOk r ((c : List ℕ) → MayBe g new c → g.gives old c)
  synced_read old (Ok m) given = λ c may. given.0 c (before c may)
  synced_read old (Err e) given = tt
