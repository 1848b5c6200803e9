-- What records make of a snapshot's files is what they make of the files of its catalog, where they can stand there.
use Rattle.std.proofs.Common.{◌≡◌, ℕ, zero, suc, ◌+◌, ◌-◌, ◌*◌, ◌<◌, ◌≤◌, List, [], ◌∷◌, ◌++◌, length, map, take, set, Bool, true, false, not, ◌&&◌, Option}
use Rattle.std.proofs.Common.{Some, None, refl, sym, ◌∙◌, ap, subst, arith, length-set}
use Rattle.std.specs.Prelude.{filter, replicate, nat_lt, nat_le, if◌then◌else◌}
use Rattle.std.specs.Option.{unwrap_or}
use Rattle.hsm_types.specs.Limits.{segment_blocks}
use Rattle.hsm_types.specs.declared.keys.FileKey.{FileKey}
use Rattle.hsm_types.specs.Kept.{nothing_kept}
use Rattle.hsm_types.specs.Keyed.{same_key, find_key, change_key, drop_key}
use Rattle.plain_model.specs.Plain.{Listed, named}
use Rattle.plain_model.specs.Blocks.{blocks_in}
use Rattle.inode_table.specs.Listing.{key_at, has_inode}
use Rattle.snapshot_text.specs.declared.snapshot.Mapping.{Mapping}
use Rattle.journal_records.specs.declared.records.Record.{Record}
use Rattle.journal_records.specs.declared.records.Record.TheVariants.{Make, Drop, Size, Map, Regions, SetAttr, DropAttr, Stub}
use Rattle.snapshot_text.specs.Files.{CatalogFile}
use Rattle.meta_store.specs.Catalogs.{Catalog, names_of}
use Rattle.journal_records.specs.Texts.{inode_of}
use Rattle.snapshot_text.specs.FileRecords.{places_fitted, places_set, mappings_from, places_without, file_after}
use Rattle.meta_store.specs.Records.{key_on, after, after_all, CanStandOn}
use Rattle.meta_store.specs.Records.{CanStand, CanStandAll}
use Rattle.snapshot_text.specs.Snapshots.{SnapshotFile, Snapshot, extents_from, snapshot_file}
use Rattle.meta_store.specs.Snapshots.{snapshot_of}
use Rattle.meta_store.specs.Validity.{names_in}
use Rattle.meta_store.specs.Batches.{with_extent, with_extents, extents_below, extents_without, file_changed, key_in, changed, changed_all, Applies}
use Rattle.meta_store.specs.Batches.{AllApply, after_batch}
use Rattle.meta_store.specs.Meta.{Meta}
use Rattle.meta_store.specs.Laws.{IsTakenAsBatch}
use Rattle.meta_store.proofs.FileEdits.{name_of, map-put, map-drop}
use Rattle.snapshot_text.proofs.ClearedPlaces.{cleared, without-cleared}

-- ---- extents of places

-- before the first of them
first : (k b p : ℕ) (ps : List (Option ℕ)) → b < k → with_extent (record { block = b; place = p }) (extents_from k ps) ≡ (record { block = b; place = p }) ∷ extents_from k ps
first k b p [] lt = refl
first k b p (None ∷ ps) lt = first (k + 1) b p ps (omega arith)
first k b p (Some at ∷ ps) lt = grind arith

set_there : (k b p i : ℕ) (ps : List (Option ℕ)) → b ≡ k + i → i < length ps → with_extent (record { block = b; place = p }) (extents_from k ps) ≡ extents_from k (set ps i (Some p))
set_there k b p i [] is lt = absurd (omega arith)
set_there k b p zero (None ∷ ps) is lt = let same : b ≡ k = omega arith in first (k + 1) b p ps (omega arith) ∙ ap (λ (n : ℕ). (record { block = n; place = p }) ∷ extents_from (k + 1) ps) same
set_there k b p zero (Some at ∷ ps) is lt = grind arith
set_there k b p (suc i) (None ∷ ps) is lt = set_there (k + 1) b p i ps (omega arith) (omega arith)
set_there k b p (suc i) (Some at ∷ ps) is lt = grind (arith, set_there (k + 1) b p i ps (omega arith) (omega arith))

mapped : (new : List ℕ) (block : ℕ) (ps : List (Option ℕ)) → block + length new ≤ length ps → with_extents (mappings_from block new) (extents_from 0 ps) ≡ extents_from 0 (places_set (mappings_from block new) ps)
mapped [] block ps fits = refl
mapped (p ∷ new) block ps fits =
    ap (with_extents (mappings_from (block + 1) new)) (set_there 0 block p block ps (omega arith) (omega arith))
    ∙ mapped new (block + 1) (set ps block (Some p)) (omega (arith, length-set ps block (Some p)))

holes : (k m : ℕ) → extents_from k (replicate m None) ≡ []
holes k zero = refl
holes k (suc m) = holes (k + 1) m

past : (k n : ℕ) (ps : List (Option ℕ)) → n ≤ k → filter (λ (x : Mapping). nat_lt x.block n) (extents_from k ps) ≡ []
past k n [] le = refl
past k n (None ∷ ps) le = past (k + 1) n ps (omega arith)
past k n (Some at ∷ ps) le = grind (arith, past (k + 1) n ps (omega arith))

below : (c k n m : ℕ) (ps : List (Option ℕ)) → n ≡ k + c → filter (λ (x : Mapping). nat_lt x.block n) (extents_from k ps) ≡ extents_from k (take c ps ++ replicate m None)
below zero k n m ps is = past k n ps (omega arith) ∙ sym (holes k m)
below (suc c) k n m [] is = sym (holes k m)
below (suc c) k n m (None ∷ ps) is = below c (k + 1) n m ps (omega arith)
below (suc c) k n m (Some at ∷ ps) is = grind (arith, below c (k + 1) n m ps (omega arith))

fitted : (size : ℕ) (ps : List (Option ℕ)) → extents_below (blocks_in size) (extents_from 0 ps) ≡ extents_from 0 (places_fitted size ps)
fitted size ps = below (blocks_in size) 0 (blocks_in size) (blocks_in size - length ps) ps (omega arith)

-- all extents but those from one block up to another
abbrev others : ℕ → ℕ → List Mapping → List Mapping
others low high xs = filter (λ x. not (nat_le low x.block && nat_lt x.block high)) xs

none_out : (k low high : ℕ) (ps : List (Option ℕ)) → high ≤ k → others low high (extents_from k ps) ≡ extents_from k ps
none_out k low high [] le = refl
none_out k low high (None ∷ ps) le = none_out (k + 1) low high ps (omega arith)
none_out k low high (Some at ∷ ps) le = grind (arith, none_out (k + 1) low high ps (omega arith))

clearing : (n k low high : ℕ) (ps : List (Option ℕ)) → low ≤ k → high ≡ k + n → others low high (extents_from k ps) ≡ extents_from k (cleared zero n ps)
clearing zero k low high [] le is = refl
clearing zero k low high (p ∷ ps) le is = none_out k low high (p ∷ ps) (omega arith)
clearing (suc n) k low high [] le is = refl
clearing (suc n) k low high (None ∷ ps) le is = clearing n (k + 1) low high ps (omega arith) (omega arith)
clearing (suc n) k low high (Some at ∷ ps) le is = grind (arith, clearing n (k + 1) low high ps (omega arith) (omega arith))

before : (m n k low high : ℕ) (ps : List (Option ℕ)) → low ≡ k + m → high ≡ low + n → others low high (extents_from k ps) ≡ extents_from k (cleared m n ps)
before zero n k low high ps from to = clearing n k low high ps (omega arith) (omega arith)
before (suc m) n k low high [] from to = refl
before (suc m) n k low high (None ∷ ps) from to = before m n (k + 1) low high ps (omega arith) (omega arith)
before (suc m) n k low high (Some at ∷ ps) from to = grind (arith, before m n (k + 1) low high ps (omega arith) (omega arith))

without : (j : ℕ) (ps : List (Option ℕ)) → extents_without j (extents_from 0 ps) ≡ extents_from 0 (places_without j ps)
without j ps = before (segment_blocks * j) segment_blocks 0 (segment_blocks * j) (segment_blocks * j + segment_blocks) ps (omega arith) refl ∙ ap (extents_from 0) (sym (without-cleared j ps))

-- ---- one file

file_same : (r : Record) (f : CatalogFile) (c : Catalog) → CanStandOn r f c → file_changed r (snapshot_file f) ≡ snapshot_file (file_after r f)
file_same (Make key name) f c can = refl
file_same (Drop ino) f c can = refl
file_same (Size ino size) f c can = ap (λ (xs : List Mapping). record (snapshot_file (file_after (Size ino size) f)) { extents = xs }) (fitted size f.places)
file_same (Map ino block places) f c can = ap (λ (xs : List Mapping). record (snapshot_file f) { extents = xs }) (mapped places block f.places can.blocks)
file_same (Regions ino regions) f c can = refl
file_same (SetAttr ino name value) f c can = refl
file_same (DropAttr ino name) f c can = refl
file_same (Stub ino j None) f c can = refl
file_same (Stub ino j (Some stub)) f c can = ap (λ (xs : List Mapping). record (snapshot_file (file_after (Stub ino j (Some stub)) f)) { extents = xs }) (gone stub.offline)
  where
    gone : (b : Bool) → (if b then extents_without j (extents_from 0 f.places) else extents_from 0 f.places) ≡ extents_from 0 (if b then places_without j f.places else f.places)
    gone true = without j f.places
    gone false = refl

-- ---- the files

names_same : (fs : List CatalogFile) → names_in (map snapshot_file fs) ≡ names_of fs
names_same [] = refl
names_same (f ∷ fs) = ap (λ (ls : List Listed). name_of f ∷ ls) (names_same fs)

key_same : (ino : ℕ) (c : Catalog) → key_in ino (map snapshot_file c.files) ≡ key_on ino c
key_same ino c = ap (λ (ls : List Listed). unwrap_or (key_at ino ls) (record { ino = ino; igen = 0 })) (names_same c.files)

if_same : {X Y : Type 0} (b : Bool) (x y : X) (u v : Y) (to : Y → X) → (b ≡ true → x ≡ to u) → (b ≡ false → y ≡ to v) → (if b then x else y) ≡ to (if b then u else v)
if_same true x y u v to this other = this refl
if_same false x y u v to this other = other refl

change_same : (k : FileKey) (to : CatalogFile → CatalogFile) (turn : SnapshotFile → SnapshotFile) (fs : List CatalogFile) → ((f : CatalogFile) → find_key (λ g. g.key) k fs ≡ Some f → turn (snapshot_file f) ≡ snapshot_file (to f))
    → change_key (λ f. f.key) k turn (map snapshot_file fs) ≡ map snapshot_file (change_key (λ f. f.key) k to fs)
change_same k to turn [] same = refl
change_same k to turn (f ∷ fs) same =
    if_same (same_key f.key k) _ _ _ _ (map snapshot_file) (λ this. ap (λ (g : SnapshotFile). g ∷ map snapshot_file fs) (same f (rw this refl)))
    (λ other. ap (λ (gs : List SnapshotFile). snapshot_file f ∷ gs) (change_same k to turn fs (λ g is. same g (rw other is))))

-- the file that is found has the inode
pub ino_on : (ino : ℕ) (ls : List Listed) → (unwrap_or (key_at ino ls) (record { ino = ino; igen = 0 })).ino ≡ ino
ino_on ino [] = refl
ino_on ino (l ∷ ls) = grind (arith, ino_on ino ls)

found_inode : (k : FileKey) (f : CatalogFile) (fs : List CatalogFile) → find_key (λ g. g.key) k fs ≡ Some f → has_inode k.ino (names_of fs) ≡ true
found_inode k f [] found = absurd cc
found_inode k f (g ∷ fs) found = grind (arith, found_inode k f fs)

file_there : (ino : ℕ) (f : CatalogFile) (c : Catalog) → find_key (λ g. g.key) (key_on ino c) c.files ≡ Some f → has_inode ino (names_in (map snapshot_file c.files)) ≡ true
file_there ino f c found =
    ap (has_inode ino) (names_same c.files) ∙ ap (λ (n : ℕ). has_inode n (names_of c.files)) (sym (ino_on ino (names_of c.files))) ∙ found_inode (key_on ino c) f c.files found

-- ---- one record

both_same : (number n m : ℕ) (fs gs : List SnapshotFile) → n ≡ m → fs ≡ gs → ◌≡◌ {A = Snapshot} (record { number = number; next = n; files = fs }) (record { number = number; next = m; files = gs })
both_same number n m fs gs next files = rw (next, files) refl

one_same : (r : Record) (c : Catalog) (f : CatalogFile) → find_key (λ g. g.key) (key_on (inode_of r) c) c.files ≡ Some f → CanStandOn r f c
    → change_key (λ g. g.key) (key_in (inode_of r) (map snapshot_file c.files)) (file_changed r) (map snapshot_file c.files) ≡ map snapshot_file (change_key (λ g. g.key) (key_on (inode_of r) c) (file_after r) c.files)
one_same r c f found can =
    ap (λ (k : FileKey). change_key (λ g. g.key) k (file_changed r) (map snapshot_file c.files)) (key_same (inode_of r) c)
    ∙ change_same (key_on (inode_of r) c) (file_after r) (file_changed r) c.files (λ g there. let it : f ≡ g = cc in file_same r g c (subst (λ (x : CatalogFile). CanStandOn r x c) it can))

record_same : (r : Record) (number : ℕ) (c : Catalog) → CanStand r c → changed r (snapshot_of number c) ≡ snapshot_of number (after r c)
unfolding snapshot_of
record_same (Make key name) number c can = both_same number _ _ _ _ (omega (arith, can.generation)) (sym (map-put (λ (f : SnapshotFile). f.key) snapshot_file (record { key = key; name = name; size = 0; places = []; kept = nothing_kept }) c.files))
record_same (Drop ino) number c can =
    both_same number _ _ _ _ refl (ap (λ (k : FileKey). drop_key (λ f. f.key) k (map snapshot_file c.files)) (key_same ino c) ∙ sym (map-drop (λ (f : SnapshotFile). f.key) snapshot_file (key_on ino c) c.files))
record_same (Size ino size) number c can = both_same number _ _ _ _ refl (one_same (Size ino size) c can.0 can.1 can.2)
record_same (Map ino block places) number c can = both_same number _ _ _ _ refl (one_same (Map ino block places) c can.0 can.1 can.2)
record_same (Regions ino regions) number c can = both_same number _ _ _ _ refl (one_same (Regions ino regions) c can.0 can.1 can.2)
record_same (SetAttr ino name value) number c can = both_same number _ _ _ _ refl (one_same (SetAttr ino name value) c can.0 can.1 can.2)
record_same (DropAttr ino name) number c can = both_same number _ _ _ _ refl (one_same (DropAttr ino name) c can.0 can.1 can.2)
record_same (Stub ino j stub) number c can = both_same number _ _ _ _ refl (one_same (Stub ino j stub) c can.0 can.1 can.2)

record_applies : (r : Record) (number : ℕ) (c : Catalog) → CanStand r c → Applies r (snapshot_of number c)
unfolding snapshot_of
record_applies (Make key name) number c can = record { inode = ap (has_inode key.ino) (names_same c.files) ∙ can.inode; free = ap (named name) (names_same c.files) ∙ can.free; generation = can.generation }
record_applies (Drop ino) number c can = file_there ino can.0 c can.1
record_applies (Size ino size) number c can = file_there ino can.0 c can.1
record_applies (Map ino block places) number c can = file_there ino can.0 c can.1
record_applies (Regions ino regions) number c can = file_there ino can.0 c can.1
record_applies (SetAttr ino name value) number c can = file_there ino can.0 c can.1
record_applies (DropAttr ino name) number c can = file_there ino can.0 c can.1
record_applies (Stub ino j stub) number c can = file_there ino can.0 c can.1

-- ---- records

stand_same : (rs : List Record) (number : ℕ) (c : Catalog) → CanStandAll rs c → AllApply rs (snapshot_of number c) × (changed_all rs (snapshot_of number c) ≡ snapshot_of number (after_all rs c))
stand_same [] number c can = (tt, refl)
stand_same (r ∷ rs) number c can =
    let same = record_same r number c can.0 in
    let rest = stand_same rs number (after r c) can.1 in
    ((record_applies r number c can.0, subst (λ (s : Snapshot). AllApply rs s) (sym same) rest.0), ap (changed_all rs) same ∙ rest.1)

renumbered : (number later : ℕ) (c : Catalog) → ◌≡◌ {A = Snapshot} (record (snapshot_of number c) { number = later }) (snapshot_of later c)
unfolding snapshot_of
renumbered number later c = refl

number_is : (number : ℕ) (c : Catalog) → (snapshot_of number c).number ≡ number
unfolding snapshot_of
number_is number c = refl

kind_kept : (r : Record) (c : Catalog) → (after r c).geometry ≡ c.geometry
kind_kept (Make key name) c = refl
kind_kept (Drop ino) c = refl
kind_kept (Size ino size) c = refl
kind_kept (Map ino block places) c = refl
kind_kept (Regions ino regions) c = refl
kind_kept (SetAttr ino name value) c = refl
kind_kept (DropAttr ino name) c = refl
kind_kept (Stub ino j stub) c = refl

kinds_kept : (rs : List Record) (c : Catalog) → (after_all rs c).geometry ≡ c.geometry
kinds_kept [] c = refl
kinds_kept (r ∷ rs) c = kinds_kept rs (after r c) ∙ kind_kept r c

pub taken_as_batch : (old new : Meta) (rs : List Record) (number later : ℕ) → IsTakenAsBatch old new rs number later
taken_as_batch old new rs number later can fit taken is le few =
    let all = stand_same rs number old.current can in
    let end : after_batch later rs (snapshot_of number old.current) ≡ snapshot_of later new.current =
    ap (λ (s : Snapshot). record s { number = later }) all.1 ∙ renumbered number later (after_all rs old.current) ∙ ap (snapshot_of later) (sym taken.current) in (
      record {
        rises = rw (number_is number old.current) le;
        fit = fit;
        files = all.0;
        lawful = record { catalog = new.current; number = few; kind = ap (λ (c : Catalog). c.geometry) taken.current ∙ kinds_kept rs old.current; lawful = is.current; lengths = is.stored.now; says = end };
      },
      end,
    )
