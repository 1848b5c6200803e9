-- What a commit does to images.
use Rattle.std.specs.Prelude.{ℕ, ◌+◌, ◌<◌, ◌≤◌, ◌^◌, None, List, [], ◌∷◌, ◌++◌, length}
use Rattle.disk_model.specs.Images.{part, IsFreed, IsWritten}
use Rattle.meta_journal.specs.declared.lists.Batch.{Batch}
use Rattle.meta_journal.specs.Texts.{IsClosed, closed_gate, batch_text, number_after, IsReading}

-- what contracts see of a `MetaJournal`
pub record Journal : Type 0 where
  -- where it begins on its disk, and its length
  pub at : ℕ
  pub len : ℕ
  -- how many bytes its batches have
  pub used : ℕ
  -- how many records are staged, and their bytes
  pub count : ℕ
  pub staged : List ℕ

-- with nothing staged
abbrev pub unstaged : ℕ → ℕ → ℕ → Journal
unstaged at len used = record { at = at; len = len; used = used; count = 0; staged = [] }

-- where the next gate is on the disk
abbrev pub next_gate : Journal → ℕ
next_gate j = j.at + j.used

-- the batch of what is staged
abbrev pub next_batch : Journal → ℕ → Batch
next_batch j number = record { place = next_gate j; number = number; count = j.count; records = j.staged }

-- after that batch
abbrev pub after_commit : Journal → Journal
after_commit j = unstaged j.at j.len (j.used + (17 + length j.staged))

-- what is staged and so many bytes more fit as a batch, with room for the next gate
abbrev pub FitsBatch : Journal → ℕ → Type 0
FitsBatch j more = j.used + (18 + (length j.staged + more)) ≤ j.len

-- the image of a disk has just these batches in the journal, the first one of at least that number, and a closed gate behind them
abbrev pub Holds : Journal → ℕ → List Batch → List ℕ → Type 0
Holds j number batches image = IsReading (part image j.at j.len) j.at number batches j.used None

-- all is the same but for the gate at that place and the n bytes behind it, and a gate that was closed is closed
pub record StaysShut (at n : ℕ) (old new : List ℕ) : Type 0 where
  pub freed : IsFreed at (1 + n) old new
  pub gate : IsClosed old at → IsClosed new at

-- All bytes are the same but those of the next batch and of the gate behind it, and a gate that was closed is closed. So the batches are the same.
pub record KeepsBatches (j : Journal) (old new : List ℕ) : Type 0 where
  pub shut : StaysShut (next_gate j) (17 + length j.staged) old new
  pub holds : (number : ℕ) (batches : List Batch) → Holds j number batches old → Holds j number batches new

-- There is one more, with a closed gate behind it, and all else is the same.
pub record AddsBatch (j : Journal) (n : ℕ) (old new : List ℕ) : Type 0 where
  pub written : IsWritten (next_gate j) (batch_text (next_batch j n) ++ closed_gate) old new
  pub holds : (number : ℕ) (batches : List Batch) → Holds j number batches old → number_after number batches ≤ n → n ≤ 2 ^ 62 → Holds (after_commit j) number (batches ++ next_batch j n ∷ []) new

-- what is true of each journal: there is room for the next gate, and for what is staged with it
pub record HasRoom (len used count size : ℕ) : Type 0 where
  pub room : used + 1 ≤ len
  pub short : len < 2 ^ 32
  pub fits : 1 ≤ size → used + (18 + size) ≤ len
  pub few : count ≤ size
