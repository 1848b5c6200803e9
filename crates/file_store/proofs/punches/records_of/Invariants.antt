use Rattle.file_store.proofs.Names.{◌≡◌, ◌-◌, None}
use Rattle.hsm_types.specs.Segments.{from_on}
use Rattle.hsm_types.specs.Stubs.{any_unpunched}
use Rattle.file_store.specs.Punches.{punch_records}
use Rattle.file_store.proofs.punches.records_of.Given as goal

abbrev pub invariant-loop-segment : goal.invariant-loop-segment
invariant-loop-segment l = record {
  records : l.records.items ≡ punch_records l.ino l.stubs (from_on l.from (l.segment - l.from));
  judged : any_unpunched l.regions l.stubs l.from l.segment ≡ None;
}
