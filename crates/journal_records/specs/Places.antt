-- Where records stand in the bytes of a batch.
use Rattle.std.specs.Prelude.{◌≡◌, ◌⊎◌, ℕ, ◌+◌, ◌≤◌, List, [], ◌∷◌, ◌++◌, length, take, drop}
use Rattle.journal_records.specs.declared.records.Record.{Record}
use Rattle.journal_records.specs.Texts.{record_text, RecordFits}

-- these bytes in the place of others, the same elsewhere
abbrev pub Puts : (at : ℕ) (bytes old new : List ℕ) → Type 0
Puts at bytes old new = new ≡ take at old ++ (bytes ++ drop (at + length bytes) old)

-- the record is spelled from one place to the other
pub record StandsAt (bytes : List ℕ) (place : ℕ) (r : Record) (next : ℕ) : Type 0 where
  pub fits : RecordFits r
  pub end : next ≡ place + length (record_text r)
  pub within : next ≤ length bytes
  pub text : drop place bytes ≡ record_text r ++ drop next bytes

-- no record is
abbrev pub NoneStandsAt : List ℕ → ℕ → Type 0
NoneStandsAt bytes place = (r : Record) (next : ℕ) → StandsAt bytes place r next → ⊥

-- records stand one behind the other from one place to another
abbrev pub Stand : (bytes : List ℕ) (from : ℕ) → List Record → (to : ℕ) → Type 0
Stand bytes from [] to = to ≡ from
Stand bytes from (r ∷ rs) to = (next : ℕ) × StandsAt bytes from r next × Stand bytes next rs to

-- The bytes are those of so many records, of which each fits, and of nothing else.
pub record AreRecords (bytes : List ℕ) (count : ℕ) (rs : List Record) : Type 0 where
  pub count_is : length rs ≡ count
  pub stand : Stand bytes 0 rs (length bytes)

-- Fewer records than so many stand in front of that place, and there stands no other; or so many do, and the bytes don't end there.
pub record IsBadAt (bytes : List ℕ) (count place : ℕ) : Type 0 where
  pub before : List Record
  pub stand : Stand bytes 0 before place
  pub bad : ((length before + 1 ≤ count) × NoneStandsAt bytes place) ⊎ ((length before ≡ count) × (place + 1 ≤ length bytes))
