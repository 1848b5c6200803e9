use Rattle.std.proofs.Common.{◌≡◌, ◌-◌}
use Rattle.journal_records.specs.Reading.{several, number_at}
use Rattle.journal_records.proofs.ReadValues.{with_front}
use Rattle.journal_records.proofs.fields.several_places.Given as goal

abbrev pub invariant-loop : goal.invariant-loop
invariant-loop l = with_front l.places.items (several (number_at 4) (l.count - l.counter) l.rest) ≡ several (number_at 4) l.count l.bytes
