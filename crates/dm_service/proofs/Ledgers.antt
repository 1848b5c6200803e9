-- A state in order has the ledger that its sessions tell.
use Rattle.std.proofs.Common.{◌≡◌, ℕ, zero, suc, ◌<◌, Bool, true, false, refl, sym, ◌∙◌, ap, subst, arith}
use Rattle.std.proofs.lemmas.Bool.Decides.{nat_tests}
use Rattle.std.specs.Prelude.{◌&&◌, nat_lt, if◌then◌else◌}
use Rattle.std.specs.Option.{option_map}
use Rattle.hsm_types.specs.Sessions.{places}
use Rattle.hsm_types.specs.declared.keys.FileKey.{FileKey}
use Rattle.plain_model.specs.State.{Held, State}
use Rattle.plain_model.specs.Stands.{InOrder}
use Rattle.dm_service.specs.Tables.{Tables, waiting, is_open, pending_as, flags_of, state_in, seen, open_among, open_in}

and_false : (b : Bool) → (b && false) ≡ false
and_false true = refl
and_false false = refl

open_where : (b : Bool) (n places : ℕ) → 0 < n → places ≡ (if b then 1 else 0) → b ≡ (nat_lt 0 places && nat_lt 0 n)
open_where true n places some is = grind (arith, nat_tests)
open_where false n places some is = grind (arith, nat_tests)

opens : (st : State) → InOrder st → (n : ℕ) → st.ledger.open n ≡ is_open st.sessions n
opens st ordered zero = ordered.none ∙ sym (and_false (nat_lt 0 (places (record { 0 = 0 }) st.sessions)))
opens st ordered (suc n) = open_where (st.ledger.open (suc n)) (suc n) (places (record { 0 = suc n }) st.sessions) (omega arith) (ordered.once (record { 0 = suc n }) (omega arith))

-- tables are in order, whatever else they are seen with
pub ordered_in : (t : Tables) (held h : Held) (stamps st : FileKey → ℕ) (number n : ℕ) → InOrder (state_in held stamps number t) → InOrder (state_in h st n t)
ordered_in t held h stamps st number n is = record { ascend = is.ascend; once = is.once; given = is.given; none = is.none; waits = is.waits; rights = is.rights; held = is.held }

-- tables that have the sessions, the number of tokens, the rights and the accesses of a state in order
module _ (u : Tables) (st : State) (ordered : InOrder st) (sessions : u.sessions ≡ st.sessions) (top : u.tokens ≡ st.ledger.top) (rights : u.rights ≡ st.rights)
    (pending : (c : ℕ) → option_map pending_as (waiting u c) ≡ st.ledger.pending c) (flags : (c : ℕ) → flags_of u c ≡ st.flags c) where
  opens_as : (n : ℕ) → is_open u.sessions n ≡ st.ledger.open n
  opens_as n = ap (λ s. is_open s n) sessions ∙ sym (opens st ordered n)

  pub shown : state_in st.held st.stamps st.number u ≡ st
  shown i = record {
    held = st.held;
    stamps = st.stamps;
    number = st.number;
    sessions = sessions i;
    rights = rights i;
    flags = λ c. flags c i;
    ledger = record { pending = λ c. pending c i; top = top i; «open» = λ n. opens_as n i };
  }

  pub still_ordered : InOrder (seen u)
  still_ordered = ordered_in u st.held _ st.stamps _ st.number _ (subst InOrder (sym shown) ordered)

  pub open_as : open_in u ≡ open_among st.ledger.top st.ledger.open
  open_as = ap (λ (x : State). open_among x.ledger.top x.ledger.open) shown
