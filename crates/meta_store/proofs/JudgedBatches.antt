-- A batch is judged by the files that its records are about, and by what is asked of all files together.
use Rattle.std.proofs.Common.{◌≡◌, ℕ, ◌+◌, ◌≤◌, List, [], ◌∷◌, length, map, Bool, true, false, Some, None, refl, sym, ◌∙◌, ap, subst, arith}
use Rattle.std.specs.Prelude.{◌==◌}
use Rattle.std.specs.List.{AllByRecursion}
use Rattle.std.proofs.lemmas.Bool.{cond_both}
use Rattle.std.proofs.lemmas.List.Sums.{sum_by-cons}
use Rattle.hsm_types.specs.declared.keys.FileKey.{FileKey}
use Rattle.hsm_types.specs.Limits.{last_number}
use Rattle.hsm_types.specs.Attributes.{bytes_of_attributes}
use Rattle.hsm_types.specs.Keyed.{same_key, change_key, put_key, drop_key}
use Rattle.plain_model.specs.Distinct.{Distinct}
use Rattle.inode_table.specs.Table.{IsTable}
use Rattle.journal_records.specs.declared.records.Record.{Record}
use Rattle.journal_records.specs.declared.records.Record.TheVariants.{Make, Drop, Size, Map, Regions, SetAttr, DropAttr, Stub}
use Rattle.snapshot_text.specs.Files.{CatalogFile, geometry_of, HasLengths, IsCatalogFile}
use Rattle.meta_store.specs.Catalogs.{Catalog, IsCatalog, AreLengths, attribute_total, stub_total}
use Rattle.journal_records.specs.Texts.{inode_of}
use Rattle.snapshot_text.specs.Snapshots.{SnapshotFile, Snapshot, snapshot_file}
use Rattle.meta_store.specs.Snapshots.{snapshot_of}
use Rattle.meta_store.specs.Validity.{names_in, places_in, attribute_total_in, stub_total_in}
use Rattle.meta_store.specs.Batches.{file_changed, empty_file, key_in, changed, changed_all, after_batch, IsLawful, is_about, IsLawfulFile, AreTogether}
use Rattle.meta_store.specs.Batches.{AreChangedLawful}
use Rattle.meta_store.specs.Laws.{IsJudgedByChanges}
use Rattle.meta_store.proofs.BatchedRecords.{ino_on}
use Rattle.snapshot_text.proofs.EachOf.{each-as}
use Rattle.meta_store.proofs.FoundFiles.{same_keys}
use Rattle.meta_store.proofs.PassingFiles.{names_in-snapshot, places_in-snapshot}

-- ---- what is true of each file that no record is about stays true of it

module _ (Q : SnapshotFile → Type 0) where
  each_put : (g : SnapshotFile) (fs : List SnapshotFile) → Q g → AllByRecursion Q fs → AllByRecursion Q (put_key (λ f. f.key) g fs)
  each_put g [] p h = (p, tt)
  each_put g (f ∷ fs) p h = grind (arith, p, h.0, h.1, each_put g fs p h.1)

  each_drop : (k : FileKey) (fs : List SnapshotFile) → AllByRecursion Q fs → AllByRecursion Q (drop_key (λ f. f.key) k fs)
  each_drop k [] h = tt
  each_drop k (f ∷ fs) h = grind (arith, h.0, h.1, each_drop k fs h.1)

  each_change : (k : FileKey) (to : SnapshotFile → SnapshotFile) (fs : List SnapshotFile) → ((f : SnapshotFile) → f.key ≡ k → Q (to f)) → AllByRecursion Q fs → AllByRecursion Q (change_key (λ f. f.key) k to fs)
  each_change k to [] new h = tt
  each_change k to (f ∷ fs) new h =
      cond_both (same_key f.key k) (to f ∷ fs) (f ∷ change_key (λ x. x.key) k to fs) (AllByRecursion Q) (λ same. (new f (same_keys f.key k same), h.1)) (λ other. (h.0, each_change k to fs new h.1))

key_kept : (r : Record) (f : SnapshotFile) → (file_changed r f).key ≡ f.key
key_kept (Make key name) f = refl
key_kept (Drop ino) f = refl
key_kept (Size ino size) f = refl
key_kept (Map ino block places) f = refl
key_kept (Regions ino regions) f = refl
key_kept (SetAttr ino name value) f = refl
key_kept (DropAttr ino name) f = refl
key_kept (Stub ino j None) f = refl
key_kept (Stub ino j (Some stub)) f = refl

one_changed : (Q : SnapshotFile → Type 0) (r : Record) (fs : List SnapshotFile) → ((f : SnapshotFile) → f.key.ino ≡ inode_of r → Q f) → AllByRecursion Q fs → AllByRecursion Q (change_key (λ f. f.key) (key_in (inode_of r) fs) (file_changed r) fs)
one_changed Q r fs new h =
    each_change Q (key_in (inode_of r) fs) (file_changed r) fs (λ f is. new (file_changed r f) (ap (λ (k : FileKey). k.ino) (key_kept r f ∙ is) ∙ ino_on (inode_of r) (names_in fs))) h

record_keeps : (Q : SnapshotFile → Type 0) (r : Record) (s : Snapshot) → ((f : SnapshotFile) → f.key.ino ≡ inode_of r → Q f) → AllByRecursion Q s.files → AllByRecursion Q (changed r s).files
record_keeps Q (Make key name) s new h = each_put Q (empty_file key name) s.files (new (empty_file key name) refl) h
record_keeps Q (Drop ino) s new h = each_drop Q (key_in ino s.files) s.files h
record_keeps Q (Size ino size) s new h = one_changed Q (Size ino size) s.files new h
record_keeps Q (Map ino block places) s new h = one_changed Q (Map ino block places) s.files new h
record_keeps Q (Regions ino regions) s new h = one_changed Q (Regions ino regions) s.files new h
record_keeps Q (SetAttr ino name value) s new h = one_changed Q (SetAttr ino name value) s.files new h
record_keeps Q (DropAttr ino name) s new h = one_changed Q (DropAttr ino name) s.files new h
record_keeps Q (Stub ino j stub) s new h = one_changed Q (Stub ino j stub) s.files new h

-- the record isn't about it, and none of the others is
not_about : (r : Record) (rs : List Record) (ino : ℕ) → is_about (r ∷ rs) ino ≡ false → ((inode_of r == ino) ≡ false) × (is_about rs ino ≡ false)
not_about r rs ino none = (grind arith, grind arith)

other_file : (r : Record) (ino : ℕ) {P : Type 0} → ino ≡ inode_of r → (inode_of r == ino) ≡ false → P
other_file r ino same other = absurd (grind (arith, same, other))

records_keep : (P : SnapshotFile → Type 0) (rs : List Record) (s : Snapshot) → AllByRecursion P s.files → AllByRecursion (λ f. is_about rs f.key.ino ≡ false → P f) (changed_all rs s).files
records_keep P [] s h = each-as P (λ f. is_about [] f.key.ino ≡ false → P f) s.files (λ f p none. p) h
records_keep P (r ∷ rs) s h =
    let Q : SnapshotFile → Type 0 = λ f. (inode_of r == f.key.ino) ≡ false → P f in
    let once : AllByRecursion Q (changed r s).files = record_keeps Q r s (λ f same other. other_file r f.key.ino {P = P f} same other) (each-as P Q s.files (λ f p other. p) h) in
    each-as (λ f. is_about rs f.key.ino ≡ false → Q f) (λ f. is_about (r ∷ rs) f.key.ino ≡ false → P f) (changed_all (r ∷ rs) s).files (λ f q none. let both = not_about r rs f.key.ino none in q both.1 both.0) (records_keep Q rs (changed r s) once)

either : (b : Bool) {P : Type 0} → (b ≡ true → P) → (b ≡ false → P) → P
either true this other = this refl
either false this other = other refl

both_judged : (P : SnapshotFile → Type 0) (rs : List Record) (fs : List SnapshotFile) → AllByRecursion (λ f. is_about rs f.key.ino ≡ true → P f) fs → AllByRecursion (λ f. is_about rs f.key.ino ≡ false → P f) fs → AllByRecursion P fs
both_judged P rs [] about others = tt
both_judged P rs (f ∷ fs) about others = (either (is_about rs f.key.ino) {P = P f} about.0 others.0, both_judged P rs fs about.1 others.1)

-- ---- the catalog of files that are lawful

totals-same : (gs : List CatalogFile) → attribute_total_in (map snapshot_file gs) ≡ attribute_total gs
totals-same [] = refl
totals-same (g ∷ gs) =
    sum_by-cons (λ (f : SnapshotFile). bytes_of_attributes f.kept.attributes) (snapshot_file g) (map snapshot_file gs)
    ∙ ap (λ (n : ℕ). bytes_of_attributes g.kept.attributes + n) (totals-same gs) ∙ sym (sum_by-cons (λ (f : CatalogFile). bytes_of_attributes f.kept.attributes) g gs)

stubs-same : (gs : List CatalogFile) → stub_total_in (map snapshot_file gs) ≡ stub_total gs
stubs-same [] = refl
stubs-same (g ∷ gs) =
    sum_by-cons (λ (f : SnapshotFile). length f.kept.stubs) (snapshot_file g) (map snapshot_file gs)
    ∙ ap (λ (n : ℕ). length g.kept.stubs + n) (stubs-same gs) ∙ sym (sum_by-cons (λ (f : CatalogFile). length f.kept.stubs) g gs)

-- files of a catalog that a snapshot spells so
record AreFilesOf (geometry : ℕ) (fs : List SnapshotFile) : Type 0 where
  files : List CatalogFile
  says : fs ≡ map snapshot_file files
  each : AllByRecursion (IsCatalogFile (geometry_of geometry)) files
  lengths : AllByRecursion HasLengths files

filed : (geometry : ℕ) (fs : List SnapshotFile) → AllByRecursion (IsLawfulFile geometry) fs → AreFilesOf geometry fs
filed geometry [] h = record { files = []; says = refl; each = tt; lengths = tt }
filed geometry (f ∷ fs) h =
    let rest = filed geometry fs h.1 in
    record {
      files = h.0.file ∷ rest.files;
      says = ap (λ (x : SnapshotFile). x ∷ fs) h.0.says ∙ ap (λ (l : List SnapshotFile). snapshot_file h.0.file ∷ l) rest.says;
      each = (h.0.lawful, rest.each);
      lengths = (h.0.lengths, rest.lengths);
    }

all_lawful : (geometry : ℕ) (s : Snapshot) → geometry ≤ 1 → s.number ≤ last_number → AreTogether geometry s → AllByRecursion (IsLawfulFile geometry) s.files → IsLawful geometry s
unfolding snapshot_of
all_lawful geometry s known few t h =
    let fs = filed geometry s.files h in
    record {
      catalog = record { geometry = geometry; next = s.next; files = fs.files };
      kind = refl;
      number = few;
      lawful = record {
        known = known;
        first = t.first;
        next = t.next;
        table = subst (IsTable (geometry_of geometry).files s.next) (ap names_in fs.says ∙ names_in-snapshot fs.files) t.table;
        each = fs.each;
        distinct = subst Distinct (ap places_in fs.says ∙ places_in-snapshot fs.files) t.distinct;
        few = subst (λ (n : ℕ). n ≤ (geometry_of geometry).attributes) (ap attribute_total_in fs.says ∙ totals-same fs.files) t.few;
        few_stubs = subst (λ (n : ℕ). n ≤ (geometry_of geometry).stubs) (ap stub_total_in fs.says ∙ stubs-same fs.files) t.few_stubs;
      };
      lengths = fs.lengths;
      says = ap (λ (l : List SnapshotFile). record s { files = l }) fs.says;
    }

each_lawful : (geometry : ℕ) (gs : List CatalogFile) → AllByRecursion (IsCatalogFile (geometry_of geometry)) gs → AllByRecursion HasLengths gs → AllByRecursion (IsLawfulFile geometry) (map snapshot_file gs)
each_lawful geometry [] h l = tt
each_lawful geometry (g ∷ gs) h l = (record { file = g; lawful = h.0; lengths = l.0; says = refl }, each_lawful geometry gs h.1 l.1)

of_catalog : (c : Catalog) (number : ℕ) → IsCatalog c → AreLengths c → AreTogether c.geometry (snapshot_of number c) × AllByRecursion (IsLawfulFile c.geometry) (snapshot_of number c).files
unfolding snapshot_of
of_catalog c number is lengths = (
  record {
    first = is.first;
    next = is.next;
    table = subst (IsTable (geometry_of c.geometry).files c.next) (sym (names_in-snapshot c.files)) is.table;
    distinct = subst Distinct (sym (places_in-snapshot c.files)) is.distinct;
    few = subst (λ (n : ℕ). n ≤ (geometry_of c.geometry).attributes) (sym (totals-same c.files)) is.few;
    few_stubs = subst (λ (n : ℕ). n ≤ (geometry_of c.geometry).stubs) (sym (stubs-same c.files)) is.few_stubs;
  },
  each_lawful c.geometry c.files is.each lengths,
)

tell : (geometry : ℕ) (s : Snapshot) → IsLawful geometry s → AreTogether geometry s × AllByRecursion (IsLawfulFile geometry) s.files
tell geometry s is =
    subst (λ (g : ℕ). AreTogether g s × AllByRecursion (IsLawfulFile g) s.files) is.kind
    (subst (λ (x : Snapshot). AreTogether is.catalog.geometry x × AllByRecursion (IsLawfulFile is.catalog.geometry) x.files) (sym is.says) (of_catalog is.catalog s.number is.lawful is.lengths))

pub judged_by_changes : (geometry : ℕ) (s : Snapshot) (number : ℕ) (rs : List Record) → IsJudgedByChanges geometry s number rs
judged_by_changes geometry s number rs was = (there, back)
  where
    after : Snapshot
    after = after_batch number rs s

    there : IsLawful geometry after → (number ≤ last_number) × AreTogether geometry after × AreChangedLawful geometry rs after.files
    there is = let told = tell geometry after is in (is.number, told.0, each-as (IsLawfulFile geometry) (λ f. is_about rs f.key.ino ≡ true → IsLawfulFile geometry f) after.files (λ f h about. h) told.1)

    back : (number ≤ last_number) × AreTogether geometry after × AreChangedLawful geometry rs after.files → IsLawful geometry after
    back h =
        all_lawful geometry after (omega (arith, was.lawful.known, was.kind)) h.0 h.1
        (both_judged (IsLawfulFile geometry) rs after.files h.2 (records_keep (IsLawfulFile geometry) rs s (tell geometry s was).1))
