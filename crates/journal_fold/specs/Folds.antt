-- What the batches of a journal make of the store that its snapshot says.
use Rattle.std.specs.Prelude.{◌≡◌, ◌⊎◌, ℕ, Option, Some, None, List, [], ◌∷◌}
use Rattle.journal_records.specs.declared.records.Record.{Record}
use Rattle.journal_records.specs.Places.{AreRecords}
use Rattle.meta_journal.specs.declared.lists.Batch.{Batch}
use Rattle.meta_journal.specs.Texts.{IsReading}
use Rattle.snapshot_text.specs.Snapshots.{Snapshot}
use Rattle.meta_store.specs.Batches.{after_batch, CanFollow}

-- The batch can stand behind this store, and leaves that one: its bytes are just so many records as it says, and these can follow.
pub record LeadsTo (geometry : ℕ) (s : Snapshot) (b : Batch) (t : Snapshot) : Type 0 where
  pub records : List Record
  pub are : AreRecords b.records b.count records
  pub can : CanFollow geometry s b.number records
  pub leaves : t ≡ after_batch b.number records s

-- it isn't valid there
abbrev pub LeadsNowhere : ℕ → Snapshot → Batch → Type 0
LeadsNowhere geometry s b = (t : Snapshot) → LeadsTo geometry s b t → ⊥

-- the batches lead from one store to another, each valid where it stands
abbrev pub Folds : ℕ → Snapshot → List Batch → Snapshot → Type 0
Folds geometry s [] t = t ≡ s
Folds geometry s (b ∷ bs) t = (m : Snapshot) × LeadsTo geometry s b m × Folds geometry m bs t

-- the first of the batches that isn't valid has its gate at that place of the disk
abbrev pub FailsAt : ℕ → Snapshot → List Batch → ℕ → Type 0
FailsAt geometry s [] place = ⊥
FailsAt geometry s (b ∷ bs) place = ((place ≡ b.place) × LeadsNowhere geometry s b) ⊎ ((m : Snapshot) × LeadsTo geometry s b m × FailsAt geometry m bs place)

-- A journal behind a snapshot says this store: its batches fill so many bytes, up to a gate that is closed, and lead there. It begins at `at` on its disk.
pub record IsFolded (geometry : ℕ) (s : Snapshot) (at : ℕ) (journal : List ℕ) (used : ℕ) (t : Snapshot) : Type 0 where
  pub batches : List Batch
  pub reading : IsReading journal at s.number batches used None
  pub folds : Folds geometry s batches t

-- Its first open batch that isn't valid has its gate at that place of the disk: its frame is good and its records aren't, or those of all before are
-- and its frame isn't.
pub record IsFaultyAt (geometry : ℕ) (s : Snapshot) (at : ℕ) (journal : List ℕ) (place : ℕ) : Type 0 where
  pub batches : List Batch
  pub used : ℕ
  pub bad : Option ℕ
  pub reading : IsReading journal at s.number batches used bad
  pub fault : FailsAt geometry s batches place ⊎ ((bad ≡ Some place) × ((t : Snapshot) × Folds geometry s batches t))
