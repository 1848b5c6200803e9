-- Which segments a range meets.
use Rattle.std.proofs.Common.{◌≡◌, ℕ, zero, suc, ◌+◌, ◌-◌, ◌*◌, ◌/◌, ◌<◌, ◌≤◌, ◌^◌, min, Bool, true, false, List, [], length, refl, sym, arith}
use Rattle.std.proofs.Common.{slice_index_or, nat_lt, ⊎_elim, subst}
use Rattle.std.specs.Prelude.{Contains, Decides}
use Rattle.std.proofs.lemmas.Bool.{cases_lt}
use Rattle.std.proofs.lemmas.Bool.Decides.{nat_tests}
use Rattle.hsm_types.specs.Limits.{segment_bytes}
use Rattle.hsm_types.specs.Segments.{segments_met, segments_in, from_on}
use Rattle.daemon_session.specs.declared.events.Event.{Event}
use Rattle.recall_daemon.specs.declared.away.Away.{Away}
use Rattle.recall_daemon.specs.Known.{needed_by}

pub record Meets (from to j : ℕ) : Type 0 where
  pub some : from < to
  pub first : from / segment_bytes ≤ j
  pub last : segment_bytes * j < to

in_from_on : (a n x k : ℕ) → k < length (from_on a n) → slice_index_or (from_on a n) k x ≡ x → (a ≤ x) × (x < a + n)
in_from_on a zero x k within is = absurd (omega (arith, within))
in_from_on a (suc n) x zero within is = (omega (arith, is), omega (arith, is))
in_from_on a (suc n) x (suc k) within is =
    let later = in_from_on (a + 1) n x k (omega (arith, within)) is in
    (omega (arith, later.0), omega (arith, later.1))

from_on_has : (a n x : ℕ) → a ≤ x → x < a + n → Contains (from_on a n) x
from_on_has a zero x low high = absurd (omega arith)
from_on_has a (suc n) x low high =
    ⊎_elim (λ (later : a < x). let rest = from_on_has (a + 1) n x (omega arith) (omega arith) in (suc rest.0, omega (arith, rest.1), rest.2))
    (λ (here : x ≤ a). let same : a ≡ x = omega arith in (0, omega arith, same)) (cases_lt a x)

is_below : (a b : ℕ) → a < b → nat_lt a b ≡ true
is_below a b below = grind (arith, nat_tests)

isnt_below : (a b : ℕ) → b ≤ a → nat_lt a b ≡ false
isnt_below a b above = grind (arith, nat_tests)

some_met : (from to : ℕ) → from < to → segments_met from to ≡ from_on (from / segment_bytes) (segments_in to - from / segment_bytes)
some_met from to some = rw (is_below from to some) refl

none_met : (from to : ℕ) → to ≤ from → segments_met from to ≡ []
none_met from to none = rw (isnt_below from to none) refl

in_none : (j : ℕ) → Contains [] j → ⊥
in_none j has = omega (arith, has.1)

pub met : (from to j : ℕ) → Contains (segments_met from to) j → Meets from to j
met from to j has =
    ⊎_elim (λ (some : from < to).
    let there = subst (λ l. Contains l j) (some_met from to some) has in
    let within = in_from_on (from / segment_bytes) (segments_in to - from / segment_bytes) j there.0 there.1 there.2 in
    let meets : Meets from to j = record { some = some; first = within.0; last = omega (arith, within.0, within.1) } in
    meets) (λ (none : to ≤ from). absurd (in_none j (subst (λ l. Contains l j) (none_met from to none) has))) (cases_lt from to)

pub has_met : (from to j : ℕ) → Meets from to j → Contains (segments_met from to) j
has_met from to j meets = subst (λ l. Contains l j) (sym (some_met from to meets.some)) (from_on_has (from / segment_bytes) (segments_in to - from / segment_bytes) j meets.first (omega (arith, meets.first, meets.last)))

-- an end past all segments may be cut
pub met_before : (from to end j : ℕ) (r : Bool) → j < 2 ^ 32 → end ≡ min to (2 ^ 64 - 1) → Decides r (Contains (segments_met from end) j) → Decides r (Contains (segments_met from to) j)
met_before from to end j r small cut decides = (
  λ is. let m = met from end j (decides.0 is) in has_met from to j (record { some = omega (arith, m.some); first = m.first; last = omega (arith, m.last) }),
  λ has. let m = met from to j has in decides.1 (has_met from end j (record { some = omega (arith, m.some, m.first); first = m.first; last = omega (arith, m.last) })),
)

-- none of the first of the segments away is needed
pub record NoneTo (i : ℕ) (e : Event) (size : ℕ) (away : List Away) : Type 0 where
  pub none : (k : ℕ) → k < i → (a : Away) → Contains (needed_by e size) (slice_index_or away k a).segment → ⊥
