-- Seats at a desk's table.
use Rattle.std.specs.Prelude.{◌≡◌, ◌<◌}
use Rattle.atomic_table.specs.Seated.{TableId}
use Rattle.atomic_table.specs.declared.shared.Seat.{Seat}
use Rattle.call_seats.specs.declared.views.View.{View}

-- the seat is at this table, which has a word
pub record IsAt (seat : Seat (Unit {0}) View) (table : TableId) : Type 0 where
  pub same : seat.table_id ≡ table
  pub word : 0 < table.words
