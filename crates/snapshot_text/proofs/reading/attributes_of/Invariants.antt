use Rattle.std.proofs.Common.{◌≡◌, ◌-◌}
use Rattle.journal_records.specs.Reading.{several}
use Rattle.snapshot_text.specs.Reading.{attribute_at}
use Rattle.journal_records.proofs.ReadValues.{with_front}
use Rattle.snapshot_text.proofs.reading.attributes_of.Given as goal

abbrev pub invariant-loop : goal.invariant-loop
invariant-loop l = with_front l.attributes.items (several attribute_at (l.count - l.counter) l.rest) ≡ several attribute_at l.count l.bytes
