-- Laws on batches behind a store, and on images of stores with a journal.
use Rattle.std.specs.Prelude.{◌≡◌, ℕ, List, [], ◌∷◌, ◌++◌}
use Rattle.meta_journal.specs.declared.lists.Batch.{Batch}
use Rattle.snapshot_text.specs.Snapshots.{Snapshot}
use Rattle.meta_store.specs.Batches.{IsLawful}
use Rattle.meta_store.specs.Catalogs.{Catalog}
use Rattle.meta_store.specs.Images.{Holds, Place}
use Rattle.journal_fold.specs.Folds.{LeadsTo, Folds, FailsAt, IsFolded, IsFaultyAt}
use Rattle.journal_fold.specs.Images.{JournalPlace, HoldsFolded, IsFoldCorruptAt}

-- Batches behind a store lead to one store, or fail at one place, and never both.
pub record HasOneFold (geometry : ℕ) (s : Snapshot) (bs : List Batch) : Type 0 where
  pub one : (t u : Snapshot) → Folds geometry s bs t → Folds geometry s bs u → t ≡ u
  pub place : (p q : ℕ) → FailsAt geometry s bs p → FailsAt geometry s bs q → p ≡ q
  pub never_both : (t : Snapshot) (p : ℕ) → Folds geometry s bs t → FailsAt geometry s bs p → ⊥

-- So does a journal behind a snapshot.
pub record HasOneMeaning (geometry : ℕ) (s : Snapshot) (at : ℕ) (journal : List ℕ) : Type 0 where
  pub one : (used end : ℕ) (t u : Snapshot) → IsFolded geometry s at journal used t → IsFolded geometry s at journal end u → (used ≡ end) × (t ≡ u)
  pub place : (p q : ℕ) → IsFaultyAt geometry s at journal p → IsFaultyAt geometry s at journal q → p ≡ q
  pub never_both : (used : ℕ) (t : Snapshot) (p : ℕ) → IsFolded geometry s at journal used t → IsFaultyAt geometry s at journal p → ⊥

-- So does an image: it holds one store, which stands at one place, or is corrupt at one place, and never both.
pub record HoldsOne (image : List ℕ) : Type 0 where
  pub one : (fsid fsid' n n' : ℕ) (p p' : JournalPlace) (c c' : Catalog) → HoldsFolded fsid p n c image → HoldsFolded fsid' p' n' c' image → (fsid ≡ fsid') × (p ≡ p') × (n ≡ n') × (c ≡ c')
  pub place : (a b : ℕ) → IsFoldCorruptAt a image → IsFoldCorruptAt b image → a ≡ b
  pub never_both : (fsid n : ℕ) (p : JournalPlace) (c : Catalog) (a : ℕ) → HoldsFolded fsid p n c image → IsFoldCorruptAt a image → ⊥

-- one batch more behind others leads on from where they lead
abbrev pub FoldsOneMore : ℕ → (s t u : Snapshot) → List Batch → Batch → Type 0
FoldsOneMore geometry s t u bs b = Folds geometry s bs t → LeadsTo geometry t b u → Folds geometry s (bs ++ b ∷ []) u

-- what batches make of a lawful store is lawful
abbrev pub FoldsLawfully : ℕ → (s t : Snapshot) → List Batch → Type 0
FoldsLawfully geometry s t bs = IsLawful geometry s → Folds geometry s bs t → IsLawful geometry t

-- a store whose journal is empty, as those are that were written without one
abbrev pub HoldsWithoutBatches : ℕ → Place → ℕ → Catalog → List ℕ → Type 0
HoldsWithoutBatches fsid place n c image = Holds fsid place n c image → HoldsFolded fsid (record { slot = place.slot; used = 0 }) n c image
