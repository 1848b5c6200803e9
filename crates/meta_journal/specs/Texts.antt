-- What the bytes of a journal say: batches one behind the other, up to a gate that isn't open, or to one whose batch is bad.
use Rattle.std.specs.Prelude.{◌≡◌, ◌≢◌, ℕ, ◌+◌, ◌<◌, ◌≤◌, ◌^◌, Option, Some, None, List, [], ◌∷◌, ◌++◌, length, slice_index}
use Rattle.byteorder.specs.Endian.{big_bytes}
use Rattle.disk_model.specs.Images.{part}
use Rattle.meta_journal.specs.declared.lists.Batch.{Batch}

-- a gate is open where its byte is 1
abbrev pub IsOpen : List ℕ → ℕ → Type 0
IsOpen bytes place = slice_index bytes place ≡ 1

abbrev pub IsClosed : List ℕ → ℕ → Type 0
IsClosed bytes place = slice_index bytes place ≢ 1

-- the gate that is written behind a batch
abbrev pub closed_gate : List ℕ
closed_gate = 0 ∷ []

-- a batch behind its gate: the size of its records in bytes, its number, their count, and they
abbrev pub body_text : ℕ → ℕ → List ℕ → List ℕ
body_text number count records = big_bytes 4 (length records) ++ big_bytes 8 number ++ big_bytes 4 count ++ records

-- with its gate, which is open
abbrev pub batch_text : Batch → List ℕ
batch_text b = 1 ∷ body_text b.number b.count b.records

abbrev pub batch_len : Batch → ℕ
batch_len b = 17 + length b.records

-- an open batch stands there, with room for the next gate, and can follow a batch of that number
pub record IsBatchAt (journal : List ℕ) (place last : ℕ) (b : Batch) : Type 0 where
  pub spelled : part journal place (batch_len b) ≡ batch_text b
  pub room : place + (batch_len b + 1) ≤ length journal
  pub rises : last ≤ b.number
  pub bound : b.number ≤ 2 ^ 62
  pub few : b.count < 2 ^ 32

-- the gate there is open, and no batch stands behind it that could
pub record IsBad (journal : List ℕ) (place last : ℕ) : Type 0 where
  pub gate : IsOpen journal place
  pub none : (b : Batch) → IsBatchAt journal place last b → ⊥

-- Batches stand from one place of the journal to another, the first one behind a batch of that number. The journal begins at `at` on its disk.
abbrev pub Lead : (journal : List ℕ) (at from last : ℕ) → List Batch → (to : ℕ) → Type 0
Lead journal at from last [] to = to ≡ from
Lead journal at from last (b ∷ bs) to = (b.place ≡ at + from) × IsBatchAt journal from last b × Lead journal at (from + batch_len b) b.number bs to

-- the number of the last batch, or that one
abbrev pub number_after : ℕ → List Batch → ℕ
number_after last [] = last
number_after last (b ∷ bs) = number_after b.number bs

-- the list of batches ends there: the gate is closed, or its batch is bad
abbrev pub Ends : (journal : List ℕ) (at place last : ℕ) → Option ℕ → Type 0
Ends journal at place last None = IsClosed journal place
Ends journal at place last (Some bad) = (bad ≡ at + place) × IsBad journal place last

-- These batches fill the first `used` bytes; the first has at least that number. Behind them is a closed gate (None), or the gate
-- of a bad batch, at this place of the disk.
pub record IsReading (journal : List ℕ) (at number : ℕ) (batches : List Batch) (used : ℕ) (bad : Option ℕ) : Type 0 where
  pub lead : Lead journal at 0 number batches used
  pub ends : Ends journal at used (number_after number batches) bad
