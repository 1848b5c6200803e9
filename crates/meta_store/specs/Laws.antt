-- Laws on snapshots and on what recovery finds on an image.
use Rattle.std.specs.Prelude.{◌≡◌, ◌↔◌, ℕ, ◌≤◌, List, [], ◌∷◌, ◌++◌, length, Option, Some}
use Rattle.std.specs.List.{AllByRecursion}
use Rattle.journal_records.specs.Texts.{RecordFits}
use Rattle.hsm_types.specs.Kept.{nothing_kept}
use Rattle.commit_slots.specs.Images.{IsEmptyStore}
use Rattle.commit_slots.specs.Places.{layout_of}
use Rattle.meta_store.specs.Catalogs.{Catalog, IsCatalog}
use Rattle.hsm_types.specs.Limits.{last_number}
use Rattle.meta_store.specs.Batches.{CanFollow, IsLawful, AreTogether, AreChangedLawful, after_batch}
use Rattle.journal_records.specs.declared.records.Record.{Record}
use Rattle.journal_records.specs.declared.records.Record.TheVariants.{Size, Map}
use Rattle.meta_store.specs.Records.{CanStandAll}
use Rattle.meta_store.specs.Meta.{Meta, IsMeta, IsTaken}
use Rattle.meta_store.specs.Images.{IsImage}
use Rattle.snapshot_text.specs.Snapshots.{Snapshot, spelling}
use Rattle.meta_store.specs.Snapshots.{snapshot_of}

-- the catalog of a new store of this geometry
abbrev pub no_files : ℕ → Catalog
no_files geometry = record { geometry = geometry; next = 1; files = [] }

-- Recovery finds one thing on an image: one id, one number and one catalog.
abbrev pub FindsOne : List ℕ → Type 0
FindsOne image = (fsid n : ℕ) (c : Catalog) (fsid' n' : ℕ) (c' : Catalog) → IsImage fsid n c image → IsImage fsid' n' c' image → (fsid' ≡ fsid) × (n' ≡ n) × (c' ≡ c)

-- on an image that was just formatted recovery finds number 0 and no files
abbrev pub FormattedHasNoFiles : ℕ → ℕ → List ℕ → Type 0
FormattedHasNoFiles geometry fsid image = IsEmptyStore geometry fsid image → IsImage fsid 0 (no_files geometry) image

-- a catalog's snapshot is no longer than its area
abbrev pub FitsItsArea : ℕ → Catalog → Type 0
FitsItsArea number c = IsCatalog c → length (spelling (snapshot_of number c)) ≤ (layout_of c.geometry).snapshot_len

-- The records that `apply` takes are a batch, where each can be spelled, of any number from that of the store on. After it a snapshot says what `apply` made
-- of the files.
abbrev pub IsTakenAsBatch : Meta → Meta → List Record → ℕ → ℕ → Type 0
IsTakenAsBatch old new rs number later = CanStandAll rs old.current → AllByRecursion RecordFits rs → IsTaken rs old new → IsMeta new → number ≤ later → later ≤ last_number
    → CanFollow old.current.geometry (snapshot_of number old.current) later rs × (after_batch later rs (snapshot_of number old.current) ≡ snapshot_of later new.current)

-- Behind a lawful store records leave a lawful one exactly where each file that they are about is lawful, what is asked of all files together holds, and the
-- number is one that a snapshot can have. So no other file is judged again.
abbrev pub IsJudgedByChanges : ℕ → Snapshot → ℕ → List Record → Type 0
IsJudgedByChanges geometry s number rs = IsLawful geometry s
    → IsLawful geometry (after_batch number rs s) ↔ ((number ≤ last_number) × AreTogether geometry (after_batch number rs s) × AreChangedLawful geometry rs (after_batch number rs s).files)

-- Two batches one behind the other are one batch of the second's number: so the records of several events can be.
abbrev pub AreJoined : ℕ → Snapshot → (n m : ℕ) (rs ss : List Record) → Type 0
AreJoined geometry s n m rs ss = CanFollow geometry s n rs → CanFollow geometry (after_batch n rs s) m ss
    → CanFollow geometry s m (rs ++ ss) × (after_batch m (rs ++ ss) s ≡ after_batch m ss (after_batch n rs s))

-- a small store with one file, `a`, of that size, whose blocks lie there
abbrev pub one_file : ℕ → List (Option ℕ) → Catalog
one_file size places = record { geometry = 0; next = 2; files = (record { key = record { ino = 1; igen = 1 }; name = 97 ∷ []; size = size; places = places; kept = nothing_kept }) ∷ [] }

-- An empty file gets the disk's block 7 before the size that makes room for it. These two records are a batch, and the first alone is none: no snapshot could
-- say what stands behind it.
abbrev pub IsJudgedAtItsEnd : List ℕ → Type 0
IsJudgedAtItsEnd places = places ≡ 7 ∷ []
    → CanFollow 0 (snapshot_of 3 (one_file 0 [])) 4 (Map 1 0 places ∷ Size 1 4096 ∷ [])
    × (after_batch 4 (Map 1 0 places ∷ Size 1 4096 ∷ []) (snapshot_of 3 (one_file 0 [])) ≡ snapshot_of 4 (one_file 4096 (Some 7 ∷ [])))
    × (CanFollow 0 (snapshot_of 3 (one_file 0 [])) 4 (Map 1 0 places ∷ []) → ⊥)
