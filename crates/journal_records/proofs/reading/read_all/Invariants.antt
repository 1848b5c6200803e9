use Rattle.std.proofs.Common.{◌≡◌, ◌≤◌, length}
use Rattle.journal_records.specs.Places.{Stand}
use Rattle.journal_records.proofs.reading.read_all.Given as goal

abbrev pub invariant-loop : goal.invariant-loop
invariant-loop l = record {
  stand : Stand l.bytes 0 l.records.items l.place;
  counted : length l.records.items ≡ l.counter;
  within : l.place ≤ length l.bytes;
}
