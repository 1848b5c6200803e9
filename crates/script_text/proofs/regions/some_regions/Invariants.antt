use Rattle.std.proofs.Common.{◌≡◌, length}
use Rattle.script_text.proofs.RegionParts.{IsReadTo}
use Rattle.script_text.proofs.regions.some_regions.Given as goal

abbrev pub invariant-loop : goal.invariant-loop
invariant-loop l = record {
  read : IsReadTo l.word l.regions.items l.rest;
  count : length l.regions.items ≡ l.counter;
}
