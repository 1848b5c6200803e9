-- A block that is mapped before the size makes room for it.
use Rattle.std.proofs.Common.{◌≡◌, ℕ, ◌≤◌, List, [], ◌∷◌, length, map, Option, Some, refl, sym, ◌∙◌, ap, arith}
use Rattle.std.specs.List.{AllByRecursion}
use Rattle.std.specs.List.Sorted.{IsStrictlySortedBy}
use Rattle.hsm_types.specs.Kept.{nothing_kept}
use Rattle.plain_model.specs.Blocks.{blocks_in}
use Rattle.snapshot_text.specs.declared.snapshot.Mapping.{Mapping}
use Rattle.journal_records.specs.declared.records.Record.TheVariants.{Size, Map}
use Rattle.journal_records.specs.Texts.{RecordFits}
use Rattle.snapshot_text.specs.Files.{CatalogFile, IsLawfulKept, IsCatalogFile, geometry_of}
use Rattle.meta_store.specs.Catalogs.{Catalog, IsCatalog}
use Rattle.snapshot_text.specs.Snapshots.{SnapshotFile, Snapshot, extents_from, snapshot_file}
use Rattle.meta_store.specs.Snapshots.{snapshot_of}
use Rattle.meta_store.specs.Batches.{changed, after_batch, AllApply, CanFollow}
use Rattle.meta_store.specs.Laws.{one_file, IsJudgedAtItsEnd}

nothing_lawful : IsLawfulKept (geometry_of 0).limits nothing_kept
unfolding geometry_of IsStrictlySortedBy
nothing_lawful = record { regions = refl; attributes = record { ascend = tt; unreserved = λ k d lt. absurd (omega (arith, lt)); short = λ k d lt. absurd (omega (arith, lt)) }; eight = tt }

file_lawful : AllByRecursion (IsCatalogFile (geometry_of 0)) (one_file 4096 (Some 7 ∷ [])).files
unfolding geometry_of IsStrictlySortedBy
file_lawful = (record { generation = omega arith; name = refl; size = omega arith; places = refl; within = (omega arith, tt); kept = nothing_lawful; ascend = tt; stubs = tt }, tt)

one_lawful : IsCatalog (one_file 4096 (Some 7 ∷ []))
unfolding geometry_of
one_lawful = record {
  known = omega arith;
  first = omega arith;
  next = omega arith;
  table = record { ascend = (omega arith, tt); within = (omega arith, omega arith, tt); differ = (refl, tt) };
  each = file_lawful;
  distinct = (refl, tt);
  few = omega arith;
  few_stubs = omega arith;
}

-- the file in between
abbrev ahead : SnapshotFile
ahead = record { key = record { ino = 1; igen = 1 }; size = 0; name = 97 ∷ []; kept = nothing_kept; extents = (record { block = 0; place = 7 }) ∷ [] }

between : (places : List ℕ) → places ≡ 7 ∷ [] → (changed (Map 1 0 places) (snapshot_of 3 (one_file 0 []))).files ≡ ahead ∷ []
unfolding snapshot_of
between places is = rw is refl

ends : (places : List ℕ) → places ≡ 7 ∷ [] → after_batch 4 (Map 1 0 places ∷ Size 1 4096 ∷ []) (snapshot_of 3 (one_file 0 [])) ≡ snapshot_of 4 (one_file 4096 (Some 7 ∷ []))
unfolding snapshot_of
ends places is = rw is refl

both_apply : (places : List ℕ) → AllApply (Map 1 0 places ∷ Size 1 4096 ∷ []) (snapshot_of 3 (one_file 0 []))
unfolding snapshot_of
both_apply places = (refl, (refl, tt))

fit : (places : List ℕ) → places ≡ 7 ∷ [] → AllByRecursion RecordFits (Map 1 0 places ∷ Size 1 4096 ∷ [])
fit places is = rw is ((omega arith, (omega arith, omega arith, (omega arith, tt))), ((omega arith, omega arith), tt))

rises : (snapshot_of 3 (one_file 0 [])).number ≤ 4
unfolding snapshot_of
rises = omega arith

-- ---- no catalog has the file in between

abbrev size_of : List SnapshotFile → ℕ
size_of [] = 0
size_of (f ∷ fs) = f.size

abbrev extents_of : List SnapshotFile → List Mapping
extents_of [] = []
extents_of (f ∷ fs) = f.extents

no_extents : (ps : List (Option ℕ)) → length ps ≡ 0 → extents_from 0 ps ≡ []
no_extents [] none = refl
no_extents (p ∷ ps) none = absurd (omega (arith, none))

no_file : (geometry : ℕ) (gs : List CatalogFile) → ahead ∷ [] ≡ map snapshot_file gs → AllByRecursion (IsCatalogFile (geometry_of geometry)) gs → ⊥
no_file geometry [] same each = omega (arith, ap (λ (l : List SnapshotFile). length l) same)
no_file geometry (g ∷ gs) same each =
    let size : 0 ≡ g.size = ap size_of same in
    let few : length g.places ≡ 0 = each.0.places ∙ ap blocks_in (sym size) in
    omega (arith, ap (λ (l : List Mapping). length l) (ap extents_of same ∙ no_extents g.places few))

files_said : (number : ℕ) (c : Catalog) → (snapshot_of number c).files ≡ map snapshot_file c.files
unfolding snapshot_of
files_said number c = refl

not_alone : (places : List ℕ) → places ≡ 7 ∷ [] → CanFollow 0 (snapshot_of 3 (one_file 0 [])) 4 (Map 1 0 places ∷ []) → ⊥
not_alone places is can =
    let s = can.lawful in
    no_file s.catalog.geometry s.catalog.files (sym (between places is) ∙ ap (λ (x : Snapshot). x.files) s.says ∙ files_said 4 s.catalog) s.lawful.each

pub judged_at_its_end : (places : List ℕ) → IsJudgedAtItsEnd places
judged_at_its_end places is = (
  record {
    rises = rises;
    fit = fit places is;
    files = both_apply places;
    lawful = record { catalog = one_file 4096 (Some 7 ∷ []); number = omega arith; kind = refl; lawful = one_lawful; lengths = (tt, tt); says = ends places is };
  },
  ends places is,
  not_alone places is,
)
