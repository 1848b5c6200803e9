-- Passes of a desk sit at its table.
use Rattle.std.proofs.Common.{◌≡◌, ℕ, ◌<◌, ap, sym, ◌∙◌}
use Rattle.atomic_table.specs.Seated.{TableId}
use Rattle.atomic_table.specs.declared.shared.Seat.{Seat}
use Rattle.call_seats.specs.declared.views.View.{View}
use Rattle.call_seats.specs.Seated.{IsAt}
use Rattle.call_seats.specs.Passes.{Knowledge, DeskState, known_to}

pub seated : (table : TableId) (passes : ℕ) (seat : Seat (Unit {0}) View) (d : DeskState) (p : Knowledge) → record { table = table; passes = passes } ≡ d → known_to seat.table_id seat.me.0 ≡ p → 0 < table.words
    → p.table ≡ d.table → IsAt seat table
seated table passes seat d p is_desk is_pass word same = record { same = ap (λ (k : Knowledge). k.table) is_pass ∙ (same ∙ sym (ap (λ (s : DeskState). s.table) is_desk)); word = word }
