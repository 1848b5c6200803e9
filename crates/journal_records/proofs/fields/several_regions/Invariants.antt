use Rattle.std.proofs.Common.{◌≡◌, ◌-◌}
use Rattle.journal_records.specs.Reading.{several, region_at}
use Rattle.journal_records.proofs.ReadValues.{with_front}
use Rattle.journal_records.proofs.fields.several_regions.Given as goal

abbrev pub invariant-loop : goal.invariant-loop
invariant-loop l = with_front l.regions.items (several region_at (l.count - l.counter) l.rest) ≡ several region_at l.count l.bytes
