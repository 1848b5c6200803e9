use Rattle.std.proofs.Common.{◌≡◌, ◌-◌}
use Rattle.journal_records.specs.Reading.{several}
use Rattle.snapshot_text.specs.Reading.{extent_at}
use Rattle.journal_records.proofs.ReadValues.{with_front}
use Rattle.snapshot_text.proofs.reading.extents_of.Given as goal

abbrev pub invariant-loop : goal.invariant-loop
invariant-loop l = with_front l.extents.items (several extent_at (l.count - l.counter) l.rest) ≡ several extent_at l.count l.bytes
