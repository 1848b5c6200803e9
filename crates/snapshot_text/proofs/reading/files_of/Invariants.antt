use Rattle.std.proofs.Common.{◌≡◌, ◌-◌, map}
use Rattle.snapshot_text.specs.Snapshots.{raw_file}
use Rattle.journal_records.specs.Reading.{several}
use Rattle.snapshot_text.specs.Reading.{file_at}
use Rattle.journal_records.proofs.ReadValues.{with_front}
use Rattle.snapshot_text.proofs.reading.files_of.Given as goal

abbrev pub invariant-loop : goal.invariant-loop
invariant-loop l = with_front (map raw_file l.files.items) (several file_at (l.count - l.counter) l.rest) ≡ several file_at l.count l.bytes
