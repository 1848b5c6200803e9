use Rattle.std.proofs.Common.{◌≡◌, []}
use Rattle.call_seats.specs.Views.{first_view}
use Rattle.call_seats.specs.Seated.{IsAt}
use Rattle.call_seats.specs.Passes.{new_passes}
use Rattle.call_seats.proofs.desk.Desk.new.Given as goal

abbrev pub invariant-loop-count : goal.invariant-loop-count
invariant-loop-count l = record {
  at : IsAt l.first l.table.shared.table_id;
  first : l.first.me ≡ (record first_view { count = l.count }, []);
  dealt : l.dealt.items ≡ new_passes l.table.shared.table_id l.count;
}
