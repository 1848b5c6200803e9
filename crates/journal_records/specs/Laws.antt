-- Laws on the texts of records.
use Rattle.std.specs.Prelude.{◌≡◌, ℕ, List, ◌++◌}
use Rattle.std.specs.List.{AllByRecursion}
use Rattle.journal_records.specs.declared.records.Record.{Record}
use Rattle.journal_records.specs.Texts.{record_text, records_text, RecordFits}

-- No text of a record is the beginning of another: what begins with the texts of both is the text of one record.
abbrev pub IsOneRecord : (r s : Record) (a b : List ℕ) → Type 0
IsOneRecord r s a b = RecordFits r → RecordFits s → record_text r ++ a ≡ record_text s ++ b → (r ≡ s) × (a ≡ b)

-- a text of records is that of one list
abbrev pub IsOneList : (rs ss : List Record) → Type 0
IsOneList rs ss = AllByRecursion RecordFits rs → AllByRecursion RecordFits ss → records_text rs ≡ records_text ss → rs ≡ ss
