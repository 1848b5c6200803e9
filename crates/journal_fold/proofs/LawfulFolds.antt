-- What a batch leads to, by what was done to the store.
use Rattle.std.proofs.Common.{◌≡◌, ℕ, ◌+◌, ◌<◌, ◌≤◌, List, [], ◌∷◌, length, map, refl, sym, ◌∙◌, ap, subst, arith}
use Rattle.std.specs.List.{AllByRecursion, sum_by}
use Rattle.std.proofs.lemmas.List.Sums.{sum_by-cons}
use Rattle.hsm_types.specs.Attributes.{bytes_of_attributes}
use Rattle.hsm_types.specs.declared.stores.Geometry.{Geometry}
use Rattle.hsm_types.specs.Limits.{last_generation, last_number}
use Rattle.plain_model.specs.Distinct.{Distinct}
use Rattle.inode_table.specs.Listing.{Ascend, Within}
use Rattle.inode_table.specs.Table.{IsTable}
use Rattle.journal_records.specs.declared.records.Record.{Record}
use Rattle.journal_records.specs.Places.{Stand, AreRecords}
use Rattle.journal_records.specs.Texts.{RecordFits}
use Rattle.journal_records.proofs.StandingRecords.{no_other}
use Rattle.meta_journal.specs.declared.lists.Batch.{Batch}
use Rattle.snapshot_text.specs.Files.{CatalogFile, geometry_of, HasLengths, IsCatalogFile}
use Rattle.snapshot_text.specs.Snapshots.{SnapshotFile, Snapshot, snapshot_file}
use Rattle.meta_store.specs.Catalogs.{Catalog, IsCatalog, AreLengths, names_of, attribute_total, stub_total}
use Rattle.meta_store.specs.Snapshots.{snapshot_of}
use Rattle.meta_store.specs.Validity.{names_in, places_in, attribute_total_in, stub_total_in}
use Rattle.meta_store.specs.Batches.{changed_all, AllApply, after_batch, IsLawful}
use Rattle.meta_store.proofs.PassingFiles.{names_in-snapshot, places_in-snapshot, attribute_total_in-snapshot, stub_total_in-snapshot}
use Rattle.journal_fold.specs.declared.stores.FoldedStore.{FoldedStore}
use Rattle.journal_fold.specs.declared.uses.Uses.{Uses}
use Rattle.journal_fold.specs.Folds.{LeadsTo, LeadsNowhere}
use Rattle.journal_fold.specs.FoldedStores.{files_in, store_said}
use Rattle.journal_fold.specs.Judged.{IsAlone}
use Rattle.journal_fold.specs.Counted.{FitTogether, IsCounted}
use Rattle.journal_fold.specs.Open.{untouched, IsOpen, AreLawfulTogether}

-- ---- no file is touched

all_untouched : (fs : List SnapshotFile) → untouched [] fs ≡ fs
all_untouched [] = refl
all_untouched (f ∷ fs) = ap (λ (l : List SnapshotFile). f ∷ l) (all_untouched fs)

-- ---- the catalog of lawful files

record AreFilesOf (geometry : ℕ) (fs : List SnapshotFile) : Type 0 where
  files : List CatalogFile
  says : fs ≡ map snapshot_file files
  each : AllByRecursion (IsCatalogFile (geometry_of geometry)) files
  lengths : AllByRecursion HasLengths files

filed : (geometry next : ℕ) (fs : List SnapshotFile) → AllByRecursion (IsAlone (geometry_of geometry) next) fs → AreFilesOf geometry fs
filed geometry next [] h = record { files = []; says = refl; each = tt; lengths = tt }
filed geometry next (f ∷ fs) h =
    let rest = filed geometry next fs h.1 in
    record {
      files = h.0.file ∷ rest.files;
      says = ap (λ (x : SnapshotFile). x ∷ fs) h.0.says ∙ ap (λ (l : List SnapshotFile). snapshot_file h.0.file ∷ l) rest.says;
      each = (h.0.lawful, rest.each);
      lengths = (h.0.lengths, rest.lengths);
    }

within_of : (g : Geometry) (next : ℕ) (fs : List SnapshotFile) → AllByRecursion (IsAlone g next) fs → Within g.files next (names_in fs)
within_of g next [] h = tt
within_of g next (f ∷ fs) h = (h.0.high, h.0.early, within_of g next fs h.1)

from_one : (g : Geometry) (next : ℕ) (fs : List SnapshotFile) → AllByRecursion (IsAlone g next) fs → Ascend 0 (names_in fs) → Ascend 1 (names_in fs)
from_one g next [] h up = tt
from_one g next (f ∷ fs) h up = (h.0.low, up.1)

pub lawful_now : (geometry : ℕ) (s : FoldedStore) (u : Uses) → IsOpen geometry s u [] → s.number ≤ last_number → IsLawful geometry (store_said s)
unfolding snapshot_of
lawful_now geometry s u is few =
    let fs = files_in s in
    let g = geometry_of geometry in
    let each = subst (AllByRecursion (IsAlone g s.next)) (all_untouched fs) is.each in
    let fit = subst (IsCounted g u) (all_untouched fs) is.counted in
    let of = filed geometry s.next fs each in
    let files = of.says in
    record {
      catalog = record { geometry = geometry; next = s.next; files = of.files };
      kind = refl;
      number = few;
      lawful = record {
        known = is.known;
        first = is.first;
        next = is.next;
        table = subst (IsTable g.files s.next) (ap names_in files ∙ names_in-snapshot of.files) (record { ascend = from_one g s.next fs each is.held.ascend; within = within_of g s.next fs each; differ = is.held.differ });
        each = of.each;
        distinct = subst Distinct (ap places_in files ∙ places_in-snapshot of.files) fit.fit.distinct;
        few = subst (λ (n : ℕ). n ≤ g.attributes) (ap attribute_total_in files ∙ sym (attribute_total_in-snapshot of.files)) fit.fit.few;
        few_stubs = subst (λ (n : ℕ). n ≤ g.stubs) (ap stub_total_in files ∙ sym (stub_total_in-snapshot of.files)) fit.fit.few_stubs;
      };
      lengths = of.lengths;
      says = ap (λ (l : List SnapshotFile). record (store_said s) { files = l }) files;
    }

-- ---- what a lawful store has

part_of : (m : CatalogFile → ℕ) (f : CatalogFile) (fs : List CatalogFile) (n : ℕ) → sum_by m (f ∷ fs) ≤ n → (m f ≤ n) × (sum_by m fs ≤ n)
part_of m f fs n le = (omega (arith, sum_by-cons m f fs), omega (arith, sum_by-cons m f fs))

alone_each : (g : Geometry) (next low : ℕ) (fs : List CatalogFile) → 1 ≤ low → Ascend low (names_of fs) → Within g.files next (names_of fs) → attribute_total fs ≤ g.attributes → stub_total fs ≤ g.stubs → AllByRecursion (IsCatalogFile g) fs → AllByRecursion HasLengths fs
    → AllByRecursion (IsAlone g next) (map snapshot_file fs)
alone_each g next low [] some up within few stubs each long = tt
alone_each g next low (f ∷ fs) some up within few stubs each long =
    let bytes = part_of (λ x. bytes_of_attributes x.kept.attributes) f fs g.attributes few in
    let entries = part_of (λ x. length x.kept.stubs) f fs g.stubs stubs in (
      record { low = omega (arith, some, up.0); high = within.0; early = within.1; few = bytes.0; few_stubs = entries.0; file = f; lawful = each.0; lengths = long.0; says = refl },
      alone_each g next (f.key.ino + 1) fs (omega arith) up.1 within.2 bytes.1 entries.1 each.1 long.1,
    )

together_by : (c : Catalog) (number : ℕ) → IsCatalog c → AreLengths c → AllByRecursion (IsAlone (geometry_of c.geometry) c.next) (snapshot_of number c).files × FitTogether (geometry_of c.geometry) (snapshot_of number c).files
unfolding snapshot_of
together_by c number is long = (
  alone_each (geometry_of c.geometry) c.next 1 c.files (omega arith) is.table.ascend is.table.within is.few is.few_stubs is.each long,
  record {
    distinct = subst Distinct (sym (places_in-snapshot c.files)) is.distinct;
    few = subst (λ (n : ℕ). n ≤ (geometry_of c.geometry).attributes) (attribute_total_in-snapshot c.files) is.few;
    few_stubs = subst (λ (n : ℕ). n ≤ (geometry_of c.geometry).stubs) (stub_total_in-snapshot c.files) is.few_stubs;
  },
)

next_by : (c : Catalog) (number : ℕ) → (snapshot_of number c).next ≡ c.next
unfolding snapshot_of
next_by c number = refl

together_said : (geometry : ℕ) (x : Snapshot) → IsLawful geometry x → AllByRecursion (IsAlone (geometry_of geometry) x.next) x.files × FitTogether (geometry_of geometry) x.files × (x.next ≤ last_generation)
together_said geometry x is =
    let c = is.catalog in
    let both = together_by c x.number is.lawful is.lengths in
    let next : x.next ≡ c.next = ap (λ (y : Snapshot). y.next) is.says ∙ next_by c x.number in
    let files : (snapshot_of x.number c).files ≡ x.files = sym (ap (λ (y : Snapshot). y.files) is.says) in
    let G : ℕ → Type 0 = λ k. AllByRecursion (IsAlone (geometry_of k) x.next) x.files in
    let F : ℕ → Type 0 = λ k. FitTogether (geometry_of k) x.files in (
      subst G is.kind (subst (λ (l : List SnapshotFile). AllByRecursion (IsAlone (geometry_of c.geometry) x.next) l) files (subst (λ (n : ℕ). AllByRecursion (IsAlone (geometry_of c.geometry) n) (snapshot_of x.number c).files) (sym next) both.0)),
      subst F is.kind (subst (FitTogether (geometry_of c.geometry)) files both.1),
      omega (arith, next, is.lawful.next),
    )

-- ---- a batch

stand_fits : (bytes : List ℕ) (from : ℕ) (rs : List Record) (to : ℕ) → Stand bytes from rs to → AllByRecursion RecordFits rs
stand_fits bytes from [] to there = tt
stand_fits bytes from (r ∷ rs) to there = (there.1.fits, stand_fits bytes there.0 rs to there.2)

-- the same store under another number
abbrev pub under : ℕ → FoldedStore → FoldedStore
under n s = record { number = n; next = s.next; files = s.files; names = s.names }

pub renumbered : (geometry n : ℕ) (s : FoldedStore) (u : Uses) (ts : List ℕ) → IsOpen geometry s u ts → IsOpen geometry (under n s) u ts
renumbered geometry n s u ts is = record {
  known = is.known;
  held = record { keyed = is.held.keyed; ascend = is.held.ascend; differ = is.held.differ; index = is.held.index };
  first = is.first;
  next = is.next;
  once = is.once;
  each = is.each;
  counted = is.counted;
}

module _ (geometry : ℕ) (s : FoldedStore) (b : Batch) where
  pub no_records : ((rs : List Record) → AreRecords b.records b.count rs → ⊥) → LeadsNowhere geometry (store_said s) b
  no_records none = λ t h. none h.records h.are

  pub low_number : b.number < s.number → LeadsNowhere geometry (store_said s) b
  low_number low = λ t h. omega (arith, h.can.rises, low)

  pub high_number : last_number < b.number → LeadsNowhere geometry (store_said s) b
  high_number high = λ t h. omega (arith, h.can.lawful.number, high)

  module _ (rs : List Record) (are : AreRecords b.records b.count rs) where
    same_records : (t : Snapshot) (h : LeadsTo geometry (store_said s) b t) → h.records ≡ rs
    same_records t h = no_other b.records b.count rs h.records are h.are

    pub never_applies : (AllApply rs (store_said s) → last_generation < (changed_all rs (store_said s)).next) → LeadsNowhere geometry (store_said s) b
    never_applies past = λ t h.
        let same = same_records t h in
        let all : AllApply rs (store_said s) = subst (λ (l : List Record). AllApply l (store_said s)) same h.can.files in
        let lawful : IsLawful geometry (after_batch b.number rs (store_said s)) = subst (λ (l : List Record). IsLawful geometry (after_batch b.number l (store_said s))) same h.can.lawful in
        omega (arith, past all, (together_said geometry (after_batch b.number rs (store_said s)) lawful).2)

    pub never_lawful : (t : FoldedStore) → store_said t ≡ changed_all rs (store_said s) → (AreLawfulTogether geometry (under b.number t) → ⊥) → LeadsNowhere geometry (store_said s) b
    never_lawful t said never = λ x h.
        let lawful : IsLawful geometry (after_batch b.number rs (store_said s)) = subst (λ (l : List Record). IsLawful geometry (after_batch b.number l (store_said s))) (same_records x h) h.can.lawful in
        let here : IsLawful geometry (store_said (under b.number t)) = subst (λ (y : Snapshot). IsLawful geometry (record y { number = b.number })) (sym said) lawful in
        let all = together_said geometry (store_said (under b.number t)) here in
        never (record { each = all.0; fit = all.1 })

    pub leads : (t : FoldedStore) (u : Uses) → s.number ≤ b.number → b.number ≤ last_number → AllApply rs (store_said s) → store_said t ≡ changed_all rs (store_said s) → IsOpen geometry (under b.number t) u [] → LeadsTo geometry (store_said s) b (store_said (under b.number t))
    leads t u rises bound all said is =
        let to : store_said (under b.number t) ≡ after_batch b.number rs (store_said s) = ap (λ (y : Snapshot). record y { number = b.number }) said in
        record {
          records = rs;
          are = are;
          can = record { rises = rises; fit = stand_fits b.records 0 rs (length b.records) are.stand; files = all; lawful = subst (IsLawful geometry) to (lawful_now geometry (under b.number t) u is bound) };
          leaves = to;
        }
