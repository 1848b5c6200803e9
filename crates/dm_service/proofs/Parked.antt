-- What events of accesses leave of the tables, and accesses that wait.
use Rattle.std.proofs.Common.{◌≡◌, ℕ, ◌+◌, ◌<◌, ◌≤◌, true, false, Option, None, Some, refl, sym, ◌∙◌, ap, subst, arith}
use Rattle.std.proofs.lemmas.Bool.{ne_eqb, eq-eqb, false_from_ne_true, eqb-false, cond_both}
use Rattle.std.specs.Prelude.{◌==◌, is_some, if◌then◌else◌, IfSome}
use Rattle.std.specs.Option.{option_map}
use Rattle.hsm_types.specs.Limits.{most_tokens}
use Rattle.hsm_types.specs.Callers.{IsCallerNumber}
use Rattle.hsm_types.specs.Sessions.{posted}
use Rattle.hsm_types.specs.declared.dm.Kind.{Kind}
use Rattle.hsm_types.specs.declared.keys.Handle.{Handle}
use Rattle.hsm_types.specs.declared.keys.Token.{Token}
use Rattle.hsm_types.specs.declared.regions.Range.{Range}
use Rattle.hsm_types.specs.Keyed.{set_at}
use Rattle.plain_model.specs.Accesses.{event_message}
use Rattle.plain_model.specs.Ledger.{Ledger, next_token}
use Rattle.plain_model.specs.State.{State}
use Rattle.plain_model.specs.Stands.{Awaits, InOrder}
use Rattle.plain_model.proofs.Orders.{posted_ordered}
use Rattle.access_park.specs.Laws.{CountsWaiting}
use Rattle.access_park.specs.Pending.{Slots, access_of, is_token, holds, has_lawful_answer, waiting_in, IsNewToken, IsPark}
use Rattle.access_park.specs.declared.access.Access.{Access}
use Rattle.access_park.proofs.Counting.{counts_waiting}
use Rattle.dm_service.specs.Tables.{Tables, waiting, is_open, pending_as, flags_or_none, ledger_of, seen, awaited_in, AreKept}
use Rattle.dm_service.specs.Parking.{with_access, with_event, blocked, parked, parked_on, MayWait}
use Rattle.dm_service.proofs.Ledgers.{shown, still_ordered, open_as}
use Rattle.dm_service.proofs.Awaiting.{opened}

-- ---- an event that is posted

pub posted_by : (t u : Tables) (n : ℕ) (kind : Kind) (handle : Handle) (told : Range) → AreKept t n → u.sessions ≡ posted (event_message kind (next_token (ledger_of t)) handle told) t.sessions → u.tokens ≡ t.tokens + 1 → u.tokens ≤ most_tokens
    → u.rights ≡ t.rights → u.park ≡ t.park → (seen u ≡ with_event kind handle told (seen t)) × AreKept u (n + 1) × (awaited_in u ≡ awaited_in t + 1)
posted_by t u n kind handle told kept sessions tokens few rights park =
    let st : State = with_event kind handle told (seen t) in
    let ordered = posted_ordered (seen t) kind handle told kept.ordered in
    let pending = λ (c : ℕ). ap (λ p. option_map pending_as (access_of p c)) park in
    let flags = λ (c : ℕ). ap (λ p. flags_or_none (access_of p c)) park in
    let more = open_as u st ordered sessions tokens rights pending flags ∙ opened t.tokens (is_open t.sessions) in
    let wait : waiting_in (waiting u) ≡ waiting_in (waiting t) = ap (λ p. waiting_in (access_of p)) park in (
      shown u st ordered sessions tokens rights pending flags,
      record { ordered = still_ordered u st ordered sessions tokens rights pending flags; counted = omega (arith, more, kept.counted); few = few },
      omega (arith, more, wait),
    )

-- the token is above all for which an access waits
below : (L : Ledger) (new : Token) (p : Option Access) → L.top < new.0 → IfSome (option_map pending_as p) (λ a. Awaits L a.token a.answer) → holds new p ≡ false
below L new None above is = refl
below L new (Some a) above is = by a.token is
  where
    by : (token : Option Token) → Awaits L token a.answer → is_token new token ≡ false
    by None awaits = refl
    by (Some u) awaits = let old = awaits.0 in ne_eqb u.0 new.0 (λ same. omega (arith, above, old, same))

-- so an access may wait for it
pub may_wait_for : (t u : Tables) (kind : Kind) (handle : Handle) (told : Range) (a : Access) → InOrder (seen t) → seen u ≡ with_event kind handle told (seen t) → u.park ≡ t.park → MayWait u (parked kind (next_token (ledger_of t)) a)
may_wait_for t u kind handle told a ordered left park =
    let top : (ledger_of u).top ≡ t.tokens + 1 = ap (λ (x : State). x.ledger.top) left in
    let now : (t.tokens + 1 == t.tokens + 1) ≡ true = eq-eqb (t.tokens + 1) (t.tokens + 1) refl in
    record {
      awaits = (omega (arith, top), (λ i. (left i).ledger.open (t.tokens + 1)) ∙ rw now refl);
      alone = λ c. rw park (below (ledger_of t) (next_token (ledger_of t)) (waiting t c) (omega arith) (ordered.waits c));
      lawful = refl;
    }

-- an access that parks on it
again : {V : Type 0} (c : ℕ) (v w : V) (f : ℕ → V) (n : ℕ) → set_at c w (set_at c v f) n ≡ set_at c w f n
again c v w f n = elim (n == c) as (λ b. (if b then w else (if b then v else f n)) ≡ (if b then w else f n)) [ true ↦ refl | false ↦ refl ]

replaced : (c : ℕ) (p q : Option Access) (st : State) → with_access c q (with_access c p st) ≡ with_access c q st
replaced c p q st i = record st {
  flags = λ n. again c (flags_or_none p) (flags_or_none q) st.flags n i;
  ledger = record st.ledger { pending = λ n. again c (option_map pending_as p) (option_map pending_as q) st.ledger.pending n i };
}

parks_on : (c : ℕ) (a : Access) (kind : Kind) (handle : Handle) (told : Range) (token : Token) (st : State) → token ≡ next_token st.ledger → with_access c (Some (parked kind token a)) (with_event kind handle told st) ≡ parked_on c a kind handle told st
parks_on c a kind handle told token st is i = with_access c (Some (parked kind (is i) a)) (with_event kind handle told st)

pub parked_again : (old posted_in taken_from new : Tables) (c : ℕ) (kind : Kind) (handle : Handle) (told : Range) (token : Token) (a : Access) → token ≡ next_token (ledger_of old)
    → seen posted_in ≡ with_event kind handle told (seen old) → seen taken_from ≡ with_access c None (seen posted_in) → seen new ≡ with_access c (Some (parked kind token a)) (seen taken_from)
    → seen new ≡ parked_on c a kind handle told (seen old)
parked_again old posted_in taken_from new c kind handle told token a is posts ends parks =
    parks ∙ ap (with_access c (Some (parked kind token a))) (ends ∙ ap (with_access c None) posts) ∙ replaced c None (Some (parked kind token a)) (with_event kind handle told (seen old)) ∙ parks_on c a kind handle told token (seen old) is

-- and one that is blocked again
pub blocked_again : (old taken_from new : Tables) (c : ℕ) (a : Access) → seen taken_from ≡ with_access c None (seen old) → seen new ≡ with_access c (Some (blocked a)) (seen taken_from) → seen new ≡ with_access c (Some (blocked a)) (seen old)
blocked_again old taken_from new c a ends blocks = blocks ∙ ap (with_access c (Some (blocked a))) ends ∙ replaced c None (Some (blocked a)) (seen old)

-- ---- an access that is taken out

-- another one may still wait
pub may_still_wait : (t u : Tables) (c : ℕ) (kind : Kind) (token : Token) (a b : Access) → MayWait t (parked kind token a) → seen u ≡ with_access c None (seen t) → waiting u ≡ set_at c None (waiting t) → MayWait u (parked kind token b)
may_still_wait t u c kind token a b may left park = record {
  awaits = (subst (λ (x : State). token.0 ≤ x.ledger.top) (sym left) may.awaits.0, (λ i. (left i).ledger.open token.0) ∙ may.awaits.1);
  alone = λ d. rw park (cond_both (d == c) None (waiting t d) (λ p. holds token p ≡ false) (λ same. refl) (λ apart. may.alone d));
  lawful = refl;
}

gone_from : (t : Token) (c d : ℕ) (pending : ℕ → Option Access) → (holds t (pending d) ≡ true → d ≡ c) → holds t (set_at c None pending d) ≡ false
gone_from t c d pending alone = cond_both (d == c) None (pending d) (λ p. holds t p ≡ false) (λ same. refl) (λ apart. false_from_ne_true (holds t (pending d)) (λ has. eqb-false d c apart (alone has)))

alone_by : (pending : ℕ → Option Access) (c : ℕ) (token : Option Token) → ((t : Token) (d : ℕ) → is_token t token ≡ true → holds t (pending d) ≡ true → d ≡ c) → IsNewToken token (set_at c None pending)
alone_by pending c None once = tt
alone_by pending c (Some t) once = λ d. gone_from t c d pending (once t d (eq-eqb t.0 t.0 refl))

module _ (t : Tables) (c : ℕ) (park : Slots) (ordered : InOrder (seen t)) (is : IsPark (waiting t)) (ends : access_of park ≡ set_at c None (waiting t)) where
  taken_out : (p : Option Access) → waiting t c ≡ p → IfSome p (λ a. MayWait (record t { park = park }) a)
  taken_out None was = tt
  taken_out (Some a) was = record {
    awaits = subst (λ p. IfSome (option_map pending_as p) (λ x. Awaits (ledger_of t) x.token x.answer)) was (ordered.waits c);
    alone = subst (IsNewToken a.token) (sym ends) (alone_by (waiting t) c a.token (λ u d has other. is.once u d c other (subst (λ p. holds u p ≡ true) (sym was) has)));
    lawful = subst (λ p. has_lawful_answer p ≡ true) was (is.lawful c);
  }

  pub may_wait_again : (p : Option Access) → p ≡ waiting t c → IfSome p (λ a. MayWait (record t { park = park }) a)
  may_wait_again p was = taken_out p (sym was)

-- ---- how many wait

pub ended_count : (t : Tables) (c : ℕ) (park : Slots) (p : Option Access) → IsCallerNumber c → p ≡ waiting t c → access_of park ≡ set_at c None (waiting t) → awaited_in (record t { park = park }) + (if is_some p then 1 else 0) ≡ awaited_in t
ended_count t c park p caller was ends =
    let counts : CountsWaiting (waiting t) = counts_waiting (waiting t) in
    let fewer = counts.ended c caller in
    rw (ends, was) (omega (arith, fewer))

pub parked_count : (t : Tables) (c : ℕ) (park : Slots) (a : Access) → IsCallerNumber c → waiting t c ≡ None → access_of park ≡ set_at c (Some a) (waiting t) → awaited_in (record t { park = park }) ≡ awaited_in t + 1
parked_count t c park a caller idle parks =
    let counts : CountsWaiting (waiting t) = counts_waiting (waiting t) in
    let more = counts.parked c a caller idle in
    rw parks (omega (arith, more))
