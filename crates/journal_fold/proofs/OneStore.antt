-- An image of a store with a journal has one reading.
use Rattle.std.proofs.Common.{◌≡◌, inl, inr, ℕ, zero, suc, ◌<◌, ◌≤◌, ◌^◌, Bool, true, false, List, [], ◌∷◌, length, map, take, drop, get_or, refl, sym, ◌∙◌, ap, subst, arith}
use Rattle.std.specs.Prelude.{◌==◌, if◌then◌else◌}
use Rattle.std.proofs.lemmas.List.{length-take}
use Rattle.disk_model.specs.Images.{part}
use Rattle.commit_slots.specs.declared.places.Slot.{Slot}
use Rattle.commit_slots.specs.Places.{layout_of, small, large, snapshot_at, IsLaid}
use Rattle.commit_slots.specs.Images.{slot_of, IsStore}
use Rattle.commit_slots.proofs.Laid.{laid}
use Rattle.snapshot_text.specs.Snapshots.{Snapshot}
use Rattle.snapshot_text.specs.Files.{geometry_of}
use Rattle.snapshot_text.proofs.ReadSnapshots.{one}
use Rattle.snapshot_text.proofs.SpreadPlaces.{filled, filled-again}
use Rattle.meta_journal.specs.Texts.{IsClosed}
use Rattle.meta_store.specs.Catalogs.{Catalog, IsCatalog}
use Rattle.meta_store.specs.Snapshots.{snapshot_of, IsSnapshot}
use Rattle.meta_store.specs.Images.{Place, Holds, area_of, gate_of}
use Rattle.journal_fold.specs.Folds.{IsFolded, IsFaultyAt}
use Rattle.journal_fold.specs.Images.{journal_place, journal_of, SaysFolded, JournalPlace, HoldsFolded, IsFoldCorruptAt}
use Rattle.journal_fold.specs.Laws.{HasOneMeaning, HoldsOne}
use Rattle.journal_fold.proofs.OneFold.{one_meaning}

-- ---- parts of an image

length_part : (image : List ℕ) (at n : ℕ) → length (part image at n) ≤ n
unfolding part
length_part image at n = omega (arith, length-take n (drop at image))

first_of : (n : ℕ) (l : List ℕ) → 1 ≤ n → take 1 (take n l) ≡ take 1 l
first_of zero l some = absurd (omega (arith, some))
first_of (suc n) [] some = refl
first_of (suc n) (x ∷ xs) some = refl

part_of_part : (image : List ℕ) (at n : ℕ) → 1 ≤ n → part (part image at n) 0 1 ≡ part image at 1
unfolding part
part_of_part image at n some = first_of n (drop at image) some

journals_short : (geometry : ℕ) → (layout_of geometry).journal_len < 2 ^ 32
unfolding layout_of
journals_short geometry = either (geometry == 0)
  where
    either : (b : Bool) → (if b then small else large).journal_len < 2 ^ 32
    either true = omega arith
    either false = omega arith

first_gate : (geometry : ℕ) (image : List ℕ) → part (journal_of geometry image) 0 1 ≡ gate_of geometry image
unfolding journal_of gate_of
first_gate geometry image = let h : IsLaid (layout_of geometry) = laid geometry in part_of_part image (journal_place geometry image) (layout_of geometry).journal_len h.journal_len

-- a lawful catalog is known by its snapshot
same_catalog : (n m : ℕ) (c d : Catalog) → c.geometry ≡ d.geometry → IsCatalog c → IsCatalog d → snapshot_of n c ≡ snapshot_of m d → (n ≡ m) × (c ≡ d)
unfolding snapshot_of
same_catalog n m c d geometry h k is =
    let next = ap (λ (s : Snapshot). s.next) is in
    let files = sym (filled-again (geometry_of c.geometry) c.files h.each) ∙ ap (λ (s : Snapshot). map filled s.files) is ∙ filled-again (geometry_of d.geometry) d.files k.each in
    (ap (λ (s : Snapshot). s.number) is, λ i. record { geometry = geometry i; next = next i; files = files i })

same_place : (a b : Slot) (x y : ℕ) → a ≡ b → x ≡ y → ◌≡◌ {A = JournalPlace} (record { slot = a; used = x }) (record { slot = b; used = y })
same_place a b x y slot used = rw (slot, used) refl

-- the journal of a store is shorter than its disk
journal_short : (geometry : ℕ) (image : List ℕ) → length (journal_of geometry image) < 2 ^ 32
unfolding journal_of
journal_short geometry image = omega (arith, length_part image (journal_place geometry image) (layout_of geometry).journal_len, journals_short geometry)

module _ (image : List ℕ) where
  abbrev Says : ℕ → ℕ → ℕ → Catalog → Type 0
  Says geometry used n c = SaysFolded geometry used n c image

  module _ (geometry : ℕ) where
    -- the selected snapshot says one store
    first_once : (n m : ℕ) (c d : Catalog) → IsSnapshot (area_of geometry image) n c → IsSnapshot (area_of geometry image) m d → snapshot_of n c ≡ snapshot_of m d
    first_once n m c d h k = one (area_of geometry image) (snapshot_of n c) (snapshot_of m d) h.spelled k.spelled

    abbrev Journal : Snapshot → ℕ → Snapshot → Type 0
    Journal s used t = IsFolded geometry s (journal_place geometry image) (journal_of geometry image) used t

    abbrev Faulty : Snapshot → ℕ → Type 0
    Faulty s place = IsFaultyAt geometry s (journal_place geometry image) (journal_of geometry image) place

    once : (s : Snapshot) → HasOneMeaning geometry s (journal_place geometry image) (journal_of geometry image)
    once s = one_meaning geometry s (journal_place geometry image) (journal_of geometry image) (journal_short geometry image)

    said_once : (u v n m : ℕ) (c d : Catalog) → Says geometry u n c → Says geometry v m d → (u ≡ v) × (snapshot_of n c ≡ snapshot_of m d)
    said_once u v n m c d h k =
        let first = first_once h.first k.first h.from k.from h.snapshot k.snapshot in
        (once (snapshot_of k.first k.from)).one u v (snapshot_of n c) (snapshot_of m d) (subst (λ (s : Snapshot). Journal s u (snapshot_of n c)) first h.folded) k.folded

    not_faulty : (u n m p : ℕ) (c d : Catalog) → Says geometry u n c → IsSnapshot (area_of geometry image) m d → Faulty (snapshot_of m d) p → ⊥
    not_faulty u n m p c d h is f =
        let first = first_once h.first m h.from d h.snapshot is in
        (once (snapshot_of m d)).never_both u (snapshot_of n c) p (subst (λ (s : Snapshot). Journal s u (snapshot_of n c)) first h.folded) f

    faulty_once : (n m p q : ℕ) (c d : Catalog) → IsSnapshot (area_of geometry image) n c → IsSnapshot (area_of geometry image) m d → Faulty (snapshot_of n c) p → Faulty (snapshot_of m d) q → p ≡ q
    faulty_once n m p q c d is js f g = (once (snapshot_of m d)).place p q (subst (λ (s : Snapshot). Faulty s p) (first_once n m c d is js) f) g

  -- a store's geometry and id are read off its superblock
  one_geometry : (a b fsid fsid' : ℕ) → IsStore a fsid image → IsStore b fsid' image → (a ≡ b) × (fsid ≡ fsid')
  one_geometry a b fsid fsid' h k = (sym h.superblock.says_geometry ∙ k.superblock.says_geometry, sym h.superblock.says_fsid ∙ k.superblock.says_fsid)

  held_once : (fsid fsid' n n' : ℕ) (p p' : JournalPlace) (c c' : Catalog) → HoldsFolded fsid p n c image → HoldsFolded fsid' p' n' c' image → (fsid ≡ fsid') × (p ≡ p') × (n ≡ n') × (c ≡ c')
  held_once fsid fsid' n n' p p' c c' h k =
      let head = one_geometry c.geometry c'.geometry fsid fsid' h.found k.found in
      let said = said_once c'.geometry p.used p'.used n n' c c' (subst (λ (g : ℕ). Says g p.used n c) head.0 h.says) k.says in
      let same = same_catalog n n' c c' head.0 h.catalog k.catalog said.1 in
      (head.1, same_place p.slot p'.slot p.used p'.used (sym h.select ∙ k.select) said.0, same.0, same.1)

  abbrev NoSnapshot : ℕ → Type 0
  NoSnapshot geometry = (n : ℕ) (c : Catalog) → c.geometry ≡ geometry → IsSnapshot (area_of geometry image) n c → ⊥

  abbrev Bad : ℕ → ℕ → Type 0
  Bad geometry place = (n : ℕ) × (c : Catalog) × (c.geometry ≡ geometry) × IsSnapshot (area_of geometry image) n c × Faulty geometry (snapshot_of n c) place

  held_or_corrupt : (fsid n : ℕ) (p : JournalPlace) (c : Catalog) (a : ℕ) → HoldsFolded fsid p n c image → IsFoldCorruptAt a image → ⊥
  held_or_corrupt fsid n p c a h k =
      let head = one_geometry c.geometry k.geometry fsid k.fsid h.found k.found in
      let says : Says k.geometry p.used n c = subst (λ (g : ℕ). Says g p.used n c) head.0 h.says in
      elim (k.fault) [
        | inl none ↦ none.1 says.first says.from says.kind says.snapshot
        | inr bad ↦ not_faulty k.geometry p.used n bad.0 a c bad.1 says bad.3 bad.4
      ]

  corrupt_once : (a b : ℕ) → IsFoldCorruptAt a image → IsFoldCorruptAt b image → a ≡ b
  corrupt_once a b h k =
      let head = one_geometry h.geometry k.geometry h.fsid k.fsid h.found k.found in
      elim (h.fault) [
        | inl none ↦ elim (k.fault) [
          | inl others ↦ none.0 ∙ ap (λ (g : ℕ). snapshot_at (layout_of g) (slot_of image)) head.0 ∙ sym others.0
          | inr bad ↦ absurd (subst NoSnapshot head.0 none.1 bad.0 bad.1 bad.2 bad.3)
        ]
        | inr bad ↦ elim (k.fault) [
          | inl others ↦ absurd (subst NoSnapshot (sym head.0) others.1 bad.0 bad.1 bad.2 bad.3)
          | inr other ↦
              let here : Bad k.geometry a = subst (λ (g : ℕ). Bad g a) head.0 bad in
              faulty_once k.geometry here.0 other.0 a b here.1 other.1 here.3 other.3 here.4 other.4
        ]
      ]

  pub one_store : HoldsOne image
  one_store = record { one = held_once; place = corrupt_once; never_both = held_or_corrupt }

  -- ---- an empty journal

  closed_gate : (journal : List ℕ) → (get_or (part journal 0 1) 0 0 == 1) ≡ false → IsClosed journal 0
  unfolding part
  closed_gate [] is = λ is_open. absurd cc
  closed_gate (x ∷ xs) is = λ is_open. grind arith

  pub without_batches : (fsid : ℕ) (place : Place) (n : ℕ) (c : Catalog) → Holds fsid place n c image → HoldsFolded fsid (record { slot = place.slot; used = 0 }) n c image
  without_batches fsid place n c h = record {
    found = h.found;
    select = h.select;
    catalog = h.snapshot.catalog;
    says = record {
      first = n;
      from = c;
      kind = refl;
      snapshot = h.snapshot;
      folded = record { batches = []; reading = record { lead = refl; ends = closed_gate (journal_of c.geometry image) (subst (λ (gate : List ℕ). (get_or gate 0 0 == 1) ≡ false) (sym (first_gate c.geometry image)) h.gate) }; folds = refl };
    };
  }
