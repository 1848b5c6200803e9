use Rattle.std.proofs.Common.{◌≡◌, ◌-◌}
use Rattle.journal_records.specs.Reading.{several}
use Rattle.snapshot_text.specs.Reading.{stub_in}
use Rattle.journal_records.proofs.ReadValues.{with_front}
use Rattle.snapshot_text.proofs.reading.stubs_of.Given as goal

abbrev pub invariant-loop : goal.invariant-loop
invariant-loop l = with_front l.stubs.items (several stub_in (l.count - l.counter) l.rest) ≡ several stub_in l.count l.bytes
