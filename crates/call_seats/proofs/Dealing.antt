-- Passes that are given out.
use Rattle.std.proofs.Common.{◌≡◌, ℕ, ◌+◌, false, List, [], ◌∷◌, ◌++◌, ap, sym, ◌∙◌, arith}
use Rattle.std.proofs.lemmas.List.FromFn.{map-range_with_len_more}
use Rattle.atomic_table.specs.Seated.{TableId}
use Rattle.atomic_table.specs.Table.{Me}
use Rattle.atomic_table.specs.declared.shared.Seat.{Seat}
use Rattle.call_seats.specs.declared.views.View.{View}
use Rattle.call_seats.specs.Views.{first_view, dealt}
use Rattle.call_seats.specs.Passes.{Knowledge, known_to, new_pass, new_passes}

-- the next one
pub next_dealt : (table : TableId) (count : ℕ) (passes after : List Knowledge) (first : Me (Unit {0}) View) (seat : Seat (Unit {0}) View) → passes ≡ new_passes table count → first ≡ (record first_view { count = count }, [])
    → seat.table_id ≡ table → seat.me ≡ (dealt first.0, []) → after ≡ passes ++ known_to seat.table_id seat.me.0 ∷ [] → after ≡ new_passes table (count + 1)
next_dealt table count passes after first seat is_dealt is_first is_at is_next is_after =
    let me : seat.me ≡ (dealt (record first_view { count = count }), []) = is_next ∙ ap (λ (m : Me (Unit {0}) View). (dealt m.0, [])) is_first in
    let p : known_to seat.table_id seat.me.0 ≡ new_pass table false (count + 1) = λ i. known_to (is_at i) (me i).0 in
    is_after ∙ ((λ i. is_dealt i ++ p i ∷ []) ∙ sym (map-range_with_len_more (new_pass table false) 1 count (count + 1) (omega arith)))
