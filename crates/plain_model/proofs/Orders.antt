-- The tables of a store agree with its ledger after each event.
use Rattle.std.proofs.Common.{◌≡◌, ◌<◌, ◌≤◌, ◌+◌, ℕ, List, [], ◌∷◌, length, Bool, true, false, Option, Some, None, refl, sym, ◌∙◌, subst, arith}
use Rattle.std.proofs.lemmas.Bool.{eqb-true, eqb-false, eq-eqb, ne_eqb}
use Rattle.std.proofs.lemmas.Bool.Decides.{nat_tests}
use Rattle.std.specs.Prelude.{◌==◌, if◌then◌else◌, IfSome}
use Rattle.hsm_types.specs.Sessions.{SessionTable, Ascend, places, lives, owner, dead_session, not_yours, same_sid, destruction_refusal, bad_response}
use Rattle.hsm_types.specs.Sessions.{event_refusal, responded, with_session, without_session, with_kinds, loses, delivered_within, queue_of, sent}
use Rattle.hsm_types.specs.Sessions.{taker, posted_to, posted}
use Rattle.std.proofs.lemmas.List.Elements.{All-nil, All-weaker}
use Rattle.std.specs.List.{All}
use Rattle.std.specs.Map.{keys_of}
use Rattle.hsm_types.specs.Messages.{handed_out}
use Rattle.hsm_types.specs.Rights.{Rights, AreRights, holding, reaches, right_of, conflict, busy, too_low, with_right, requested, without_right}
use Rattle.hsm_types.specs.declared.dm.Right.{Right}
use Rattle.hsm_types.specs.declared.dm.Right.TheVariants.{Null, Shared, Excl}
use Rattle.hsm_types.specs.declared.keys.Handle.{Handle}
use Rattle.hsm_types.specs.declared.keys.Holding.{Holding}
use Rattle.hsm_types.proofs.Righted.{no-rights, requested-rights, upgraded-rights, downgraded-rights, without-rights, released-rights, keys-requested}
use Rattle.hsm_types.proofs.Righted.{keys-with_right, keys-without_right, keys-released}
use Rattle.hsm_types.specs.Refusals.{first_refusal}
use Rattle.hsm_types.specs.declared.calls.Call.{Call}
use Rattle.hsm_types.specs.declared.calls.Call.TheVariants.{Create, Read, Stat}
use Rattle.hsm_types.specs.declared.calls.CallRefusal.{CallRefusal}
use Rattle.hsm_types.specs.declared.calls.CallRefusal.TheVariants.{Waiting, Idle}
use Rattle.hsm_types.specs.declared.calls.Reply.TheVariants.{Parked, Still, Refused}
use Rattle.hsm_types.specs.declared.dm.Kind.{Kind}
use Rattle.hsm_types.specs.declared.dm.Response.{Response}
use Rattle.hsm_types.specs.declared.messages.Message.{Message}
use Rattle.hsm_types.specs.declared.regions.Range.{Range}
use Rattle.plain_model.specs.Accesses.{told_span, event_message}
use Rattle.hsm_types.specs.declared.keys.FileKey.{FileKey}
use Rattle.hsm_types.specs.declared.keys.Sid.{Sid}
use Rattle.hsm_types.specs.declared.keys.Token.{Token}
use Rattle.hsm_types.specs.declared.dm.DmCall.{DmCall}
use Rattle.hsm_types.specs.declared.dm.DmCall.TheVariants.{CreateSession, DestroySession, SetDisp, GetEvents, Respond, CreateUserEvent, SendMsg}
use Rattle.hsm_types.specs.declared.dm.DmCall.TheVariants.{RequestRight, ReleaseRight, UpgradeRight, DowngradeRight, GetSpace}
use Rattle.hsm_types.specs.declared.dm.DmRefusal.{DmRefusal}
use Rattle.hsm_types.specs.declared.dm.DmReply.TheVariants as told
use Rattle.hsm_types.specs.declared.dm.DmRefusal.TheVariants.{NoSession, NoToken, NotYours, NeedRight}
use Rattle.hsm_types.specs.declared.stores.Superblock.{Superblock}
use Rattle.hsm_types.proofs.AscendingIds.{ascend-removed, ascend-pushed, ascend-mapped, ascend-changed}
use Rattle.hsm_types.proofs.Queues.{count-any, places-held, owner-holds, places-created, places-destroyed, places-disposed, places-delivered}
use Rattle.hsm_types.proofs.Queues.{places-responded-other, places-answered, places-user_event, places-sent, places-posted}
use Rattle.plain_model.specs.declared.entries.Entry.{Entry}
use Rattle.plain_model.specs.declared.entries.Actor.{Actor}
use Rattle.plain_model.specs.declared.entries.Actor.TheVariants.{Caller, Session}
use Rattle.plain_model.specs.declared.entries.Action.{Action}
use Rattle.plain_model.specs.declared.entries.Action.TheVariants.{Issue, Resume, Dm}
use Rattle.plain_model.specs.Ledger.{Access, Ledger, no_ledger, Meant, Fixed, Means, next_token, ledger_replied, waits_for, answered, ledger_told}
use Rattle.hsm_types.specs.Keyed.{set_at}
use Rattle.plain_model.specs.State.{Held, Flags, State, names_of, just_opened, noted}
use Rattle.plain_model.specs.Verdict.{Blocks, Posts, Lacks, Verdict, verdict, shortage, left_by_verdict, flags_now, objection_in, meant_in}
use Rattle.plain_model.specs.Verdict.{state_where, state_after}
use Rattle.plain_model.specs.Services.{bad_own_token, bad_handle, dm_judged, dm_state_where, dm_state_after}
use Rattle.plain_model.specs.Faults.{is_fault}
use Rattle.plain_model.specs.Stands.{Awaits, InOrder}
use Rattle.plain_model.specs.Exact.{IsAnswer, left_own, left_by, Exact, state_by}
use Rattle.plain_model.proofs.Judged.{none_first, passes, Says, meant_says}
use Rattle.plain_model.proofs.Seeing.{exact_left}

-- ---- whose token it is

mine : (sid other : Sid) → other.0 ≡ sid.0 → Some other ≡ Some sid
mine sid other same i = Some (record { 0 = same i })

not_refused : (sid : Sid) (found : Option Sid) → not_yours sid found ≡ None → found ≡ Some sid
not_refused sid None is = cc
not_refused sid (Some other) is = mine sid other (eqb-true other.0 sid.0 (passes (same_sid other sid) (NotYours other) is))

at_one : (b : Bool) (n : ℕ) → n ≡ (if b then 1 else 0) → 0 < n → b ≡ true
at_one true n is some = refl
at_one false n is some = absurd (omega arith)

positive : (n : ℕ) (found rest : Option DmRefusal) → (if n == 0 then Some NoToken else found) ≡ None → (0 < n) × (found ≡ None)
positive n found rest none = elim (n == 0) as (λ b. (n == 0) ≡ b → (if b then Some NoToken else found) ≡ None → (0 < n) × (found ≡ None)) [
  | true ↦ λ is no. cc
  | false ↦ λ is no. (grind (arith, nat_tests), no)
] refl none

-- a token that a session may respond to is open
pub owned_open : (st : State) (sid : Sid) (token : Token) → InOrder st → bad_own_token sid token st.sessions ≡ None → (st.ledger.open token.0 ≡ true) × (0 < token.0) × (owner token st.sessions ≡ Some sid)
owned_open st sid token ordered none =
    let some = positive token.0 (not_yours sid (owner token st.sessions)) None none in
    let own = not_refused sid (owner token st.sessions) some.1 in
    let held = owner-holds token sid 0 st.sessions.given st.sessions ordered.ascend own in
    let here = places-held token sid st.sessions held.0 held.1 in
    let stands = count-any token held.0.outstanding held.2 in
    (at_one (st.ledger.open token.0) (places token st.sessions) (ordered.once token some.0) (omega arith), some.0, own)

-- ---- what each call leaves

posted-ascends : (m : Message) (t : SessionTable) → Ascend 0 t.given t.live → Ascend 0 (posted m t).given (posted m t).live
posted-ascends m t ascend = to (taker m.kind t)
  where
    to : (found : Option Sid) → Ascend 0 (posted_to found m t).given (posted_to found m t).live
    to None = ascend
    to (Some sid) = ascend-changed sid _ 0 t.given t.live ascend

-- whose right it is, is an open token
abbrev IsOpen : Ledger → Holding → Type 0
IsOpen L h = L.open h.token.0 ≡ true

-- the number of places stays, and so does the ledger
same_order : (st : State) (t : SessionTable) (n : ℕ) (held : Held) (stamps : FileKey → ℕ) → InOrder st → Ascend 0 t.given t.live → ((u : Token) → 0 < u.0 → places u t ≡ places u st.sessions)
    → InOrder (record { held = held; stamps = stamps; number = n; sessions = t; rights = st.rights; flags = st.flags; ledger = st.ledger })
same_order st t n held stamps ordered ascend same = record { ascend = ascend; once = λ u some. same u some ∙ ordered.once u some; given = ordered.given; none = ordered.none; waits = ordered.waits; rights = ordered.rights; held = ordered.held }

-- the tables and the ledger are those of before
pub still_ordered : (st : State) (held : Held) (stamps : FileKey → ℕ) (n : ℕ) (flags : ℕ → Flags) → InOrder st → InOrder (record { held = held; stamps = stamps; number = n; sessions = st.sessions; rights = st.rights; flags = flags; ledger = st.ledger })
still_ordered st held stamps n flags ordered = record { ascend = ordered.ascend; once = ordered.once; given = ordered.given; none = ordered.none; waits = ordered.waits; rights = ordered.rights; held = ordered.held }

-- the rights change, and are still of open tokens
rights_ordered : (st : State) (n : ℕ) (rights : Rights) → InOrder st → AreRights rights → All (IsOpen st.ledger) (keys_of rights)
    → InOrder (record { held = st.held; stamps = st.stamps; number = n; sessions = st.sessions; rights = rights; flags = st.flags; ledger = st.ledger })
rights_ordered st n rights ordered are held = record { ascend = ordered.ascend; once = ordered.once; given = ordered.given; none = ordered.none; waits = ordered.waits; rights = are; held = held }

closed_once : (given : ℕ → Bool) (u : Token) (token : Token) (t : SessionTable) (sid : Sid) → Ascend 0 t.given t.live → places u t ≡ (if given u.0 then 1 else 0) → places token t ≡ 1 → owner token t ≡ Some sid
    → places u (responded sid token t) ≡ (if set_at token.0 false given u.0 then 1 else 0)
closed_once given u token t sid ascend is one own = elim (u.0 == token.0) as (λ b. (u.0 == token.0) ≡ b → places u (responded sid token t) ≡ (if (if b then false else given u.0) then 1 else 0)) [
  | true ↦ λ here.
      let same : token ≡ u = λ i. record { 0 = sym (eqb-true u.0 token.0 here) i } in
      subst (λ (v : Token). places v (responded sid token t) ≡ 0) same (places-answered sid token 0 t.given t ascend (omega (arith, one)) own)
  | false ↦ λ apart. places-responded-other u sid token t (eqb-false u.0 token.0 apart) ∙ is
] refl

-- one place more for a new token, which is open now
opened_once : (given : ℕ → Bool) (top : ℕ) (u new : Token) (places_then places_now : ℕ) → new.0 ≡ top + 1 → ((n : ℕ) → top < n → given n ≡ false) → places_then ≡ (if given u.0 then 1 else 0)
    → places_now ≡ places_then + (if new.0 == u.0 then 1 else 0) → places_now ≡ (if set_at new.0 true given u.0 then 1 else 0)
opened_once given top u new places_then places_now next beyond is more =
    more
    ∙ elim (u.0 == new.0) as (λ b. (u.0 == new.0) ≡ b → places_then + (if new.0 == u.0 then 1 else 0) ≡ (if (if b then true else given u.0) then 1 else 0)) [
      | true ↦ λ here. grind (arith, nat_tests, is, next, beyond u.0)
      | false ↦ λ apart. grind (arith, nat_tests, is)
    ] refl

closed_none : (given : ℕ → Bool) (t n : ℕ) → given n ≡ false → set_at t false given n ≡ false
closed_none given t n none = elim (n == t) as (λ b. (if b then false else given n) ≡ false) [ true ↦ refl | false ↦ none ]

opened_none : (given : ℕ → Bool) (new : ℕ) → 0 < new → given 0 ≡ false → set_at new true given 0 ≡ false
opened_none given new some none = let apart : (0 == new) ≡ false = grind (arith, nat_tests) in rw (apart, none) refl

opened_given : (given : ℕ → Bool) (top new : ℕ) → new ≡ top + 1 → ((n : ℕ) → top < n → given n ≡ false) → (n : ℕ) → new < n → set_at new true given n ≡ false
opened_given given top new next beyond n past = let none = beyond n (omega arith) in let apart : (n == new) ≡ false = grind (arith, nat_tests) in rw (apart, none) refl

closed_given : (given : ℕ → Bool) (top t : ℕ) → ((n : ℕ) → top < n → given n ≡ false) → (n : ℕ) → top < n → set_at t false given n ≡ false
closed_given given top t beyond n past = closed_none given t n (beyond n past)

-- ---- what waits

-- old tokens are open as before
moved : (L M : Ledger) → L.top ≤ M.top → ((u : ℕ) → u ≤ L.top → M.open u ≡ L.open u) → (token : Option Token) (answer : Option Response) → Awaits L token answer → Awaits M token answer
moved L M up same None answer is = is
moved L M up same (Some t) answer is = let old = is.0 in (omega (arith, old, up), same t.0 old ∙ is.1)

moved_waits : (L M : Ledger) → L.top ≤ M.top → ((u : ℕ) → u ≤ L.top → M.open u ≡ L.open u) → (waits : Option Access) → IfSome waits (λ a. Awaits L a.token a.answer) → IfSome waits (λ a. Awaits M a.token a.answer)
moved_waits L M up same None is = tt
moved_waits L M up same (Some a) is = moved L M up same a.token a.answer is

abbrev closed : Ledger → Token → Response → Ledger
closed L t response = record L { pending = λ c. answered t response (L.pending c); «open» = set_at t.0 false L.open }

elsewhere : (t : ℕ) (b : Bool) (f : ℕ → Bool) (n : ℕ) → (n == t) ≡ false → set_at t b f n ≡ f n
elsewhere t b f n apart = rw apart refl

-- a response closes its token, and reaches the access that waits for it
reached : (L : Ledger) (t : Token) (response : Response) (a : Access) (token : Option Token) → a.token ≡ token → Awaits L token a.answer
    → IfSome (if waits_for t token then Some (record a { answer = Some response }) else Some a) (λ x. Awaits (closed L t response) x.token x.answer)
reached L t response a None is awaits = subst (λ x. Awaits (closed L t response) x a.answer) (sym is) awaits
reached L t response a (Some u) is awaits = elim (t.0 == u.0) as (λ b. (t.0 == u.0) ≡ b → IfSome (if b then Some (record a { answer = Some response }) else Some a) (λ x. Awaits (closed L t response) x.token x.answer)) [
  | true ↦ λ here. subst (λ x. Awaits (closed L t response) x (Some response)) (sym is) (awaits.0, let at : (u.0 == t.0) ≡ true = eq-eqb u.0 t.0 (sym (eqb-true t.0 u.0 here)) in rw at refl)
  | false ↦ λ apart. subst (λ x. Awaits (closed L t response) x a.answer) (sym is)
      (awaits.0, elsewhere t.0 false L.open u.0 (ne_eqb u.0 t.0 (λ same. eqb-false t.0 u.0 apart (sym same))) ∙ awaits.1)
] refl

answered_waits : (L : Ledger) (t : Token) (response : Response) (waits : Option Access) → IfSome waits (λ a. Awaits L a.token a.answer) → IfSome (answered t response waits) (λ a. Awaits (closed L t response) a.token a.answer)
answered_waits L t response None is = tt
answered_waits L t response (Some a) is = reached L t response a a.token refl is

-- a new token leaves the old ones
fresh_open : (L : Ledger) (u : ℕ) → u ≤ L.top → set_at (L.top + 1) true L.open u ≡ L.open u
fresh_open L u old = elsewhere (L.top + 1) true L.open u (ne_eqb u (L.top + 1) (λ same. omega (arith, old, same)))

-- a right stays that of an open token where one more token opens
still_open : (st : State) → InOrder st → (h : Holding) → IsOpen st.ledger h → set_at (st.ledger.top + 1) true st.ledger.open h.token.0 ≡ true
still_open st ordered h is = elim (h.token.0 == st.ledger.top + 1) as (λ b. (if b then true else st.ledger.open h.token.0) ≡ true) [ true ↦ refl | false ↦ is ]

pub not_busy : (other : Option Token) → busy other ≡ None → other ≡ None
not_busy None is = refl
not_busy (Some t) is = absurd cc

module _ (s : Superblock) (st : State) (sid : Sid) (ordered : InOrder st) where
  abbrev t : SessionTable
  t = st.sessions

  alive : (rest : List (Option DmRefusal)) → first_refusal (dead_session sid t ∷ rest) ≡ None → (lives sid t ≡ true) × (first_refusal rest ≡ None)
  alive rest none = let past = none_first (dead_session sid t) rest none in (passes (lives sid t) NoSession past.0, past.1)

  -- what is known of a call on a right that its scope doesn't refuse
  on_right : (token : Token) (handle : Handle) (need : Right) (own : Option DmRefusal)
      → first_refusal (dead_session sid t ∷ bad_own_token sid token t ∷ bad_handle s st.held.files handle ∷ too_low need (right_of token handle.key st.rights) ∷ own ∷ []) ≡ None
      → IsOpen st.ledger (holding token handle.key) × (reaches (right_of token handle.key st.rights) need ≡ true) × (first_refusal (own ∷ []) ≡ None)
  on_right token handle need own none =
      let past_session = alive (bad_own_token sid token t ∷ bad_handle s st.held.files handle ∷ too_low need (right_of token handle.key st.rights) ∷ own ∷ []) none in
      let past_token = none_first (bad_own_token sid token t) (bad_handle s st.held.files handle ∷ too_low need (right_of token handle.key st.rights) ∷ own ∷ []) past_session.1 in
      let past_handle = none_first (bad_handle s st.held.files handle) (too_low need (right_of token handle.key st.rights) ∷ own ∷ []) past_token.1 in
      let past_right = none_first (too_low need (right_of token handle.key st.rights)) (own ∷ []) past_handle.1 in
      ((owned_open st sid token ordered past_token.0).0, passes (reaches (right_of token handle.key st.rights) need) (NeedRight (right_of token handle.key st.rights)) past_right.0, past_right.1)

  told_ordered : (call : DmCall) → dm_judged s st sid call ≡ None → InOrder (dm_state_where None s st sid call)
  told_ordered (CreateSession old info) none =
      same_order st (with_session old info t) _ _ _ ordered
      (ascend-pushed 0 t.given (t.given + 1) _ _ (ascend-removed (same_sid old) 0 t.given t.live ordered.ascend) (omega arith) (omega arith))
      (λ u some. places-created u old info t)
  told_ordered DestroySession none =
      same_order st (without_session sid t) _ _ _ ordered (ascend-removed (same_sid sid) 0 t.given t.live ordered.ascend)
      (λ u some. places-destroyed u sid t (none_first (destruction_refusal sid t) [] (alive (destruction_refusal sid t ∷ []) none).1).0)
  told_ordered (SetDisp kinds) none =
      same_order st (with_kinds sid kinds t) _ _ _ ordered (ascend-changed sid _ 0 t.given _ (ascend-mapped (loses kinds) 0 t.given t.live ordered.ascend))
      (λ u some. places-disposed u sid kinds t (alive (None ∷ []) none).0)
  told_ordered (GetEvents max room) none =
      same_order st (delivered_within sid max room t) _ _ _ ordered (ascend-changed sid _ 0 t.given t.live ordered.ascend)
      (λ u some. places-delivered u sid (length (handed_out max room (queue_of sid t))) t some)
  told_ordered (Respond token response) none =
      let own = owned_open st sid token ordered (none_first (bad_own_token sid token t) (bad_response response ∷ []) (alive (bad_own_token sid token t ∷ bad_response response ∷ []) none).1).0 in
      let one : places token t ≡ 1 = ordered.once token own.1 ∙ rw own.0 refl in
      record {
        ascend = ascend-changed sid _ 0 t.given t.live ordered.ascend;
        once = λ u some. closed_once st.ledger.open u token t sid ordered.ascend (ordered.once u some) one own.2;
        given = closed_given st.ledger.open st.ledger.top token.0 ordered.given;
        none = closed_none st.ledger.open token.0 0 ordered.none;
        waits = λ c. answered_waits st.ledger token response (st.ledger.pending c) (ordered.waits c);
        rights = released-rights token st.rights ordered.rights;
        held = keys-released (IsOpen st.ledger) (IsOpen (closed st.ledger token response)) token st.rights ordered.held (λ h is other. elsewhere token.0 false st.ledger.open h.token.0 other ∙ is);
      }
  told_ordered (CreateUserEvent body) none =
      let live = (alive (event_refusal body t ∷ []) none).0 in
      record {
        ascend = ascend-changed sid _ 0 t.given t.live ordered.ascend;
        once = λ u some. opened_once st.ledger.open st.ledger.top u (next_token st.ledger) (places u t) _ refl ordered.given (ordered.once u some) (places-user_event u sid (next_token st.ledger) body t live);
        given = opened_given st.ledger.open st.ledger.top (st.ledger.top + 1) refl ordered.given;
        none = opened_none st.ledger.open (st.ledger.top + 1) (omega arith) ordered.none;
        waits = λ c. moved_waits st.ledger (ledger_told st.ledger (CreateUserEvent body) (told.Token (next_token st.ledger))) (omega arith) (fresh_open st.ledger) (st.ledger.pending c) (ordered.waits c);
        rights = ordered.rights;
        held = All-weaker (IsOpen st.ledger) _ (still_open st ordered) (keys_of st.rights) ordered.held;
      }
  told_ordered (SendMsg target body) none =
      same_order st (sent target body t) _ _ _ ordered (ascend-changed target _ 0 t.given t.live ordered.ascend) (λ u some. places-sent u target body t some)
  told_ordered (RequestRight token handle right) none =
      let own = on_right token handle Null (busy (conflict handle.key right token st.rights)) none in
      rights_ordered st _ (requested token handle.key right st.rights) ordered
      (requested-rights token handle.key right st.rights ordered.rights (not_busy (conflict handle.key right token st.rights) (none_first (busy (conflict handle.key right token st.rights)) [] own.2).0))
      (keys-requested (IsOpen st.ledger) token handle.key right st.rights ordered.held own.0)
  told_ordered (ReleaseRight token handle) none =
      rights_ordered st _ (without_right token handle.key st.rights) ordered (without-rights token handle.key st.rights ordered.rights) (keys-without_right (IsOpen st.ledger) token handle.key st.rights ordered.held)
  told_ordered (UpgradeRight token handle) none =
      let own = on_right token handle Shared (busy (conflict handle.key Excl token st.rights)) none in
      rights_ordered st _ (with_right token handle.key Excl st.rights) ordered
      (upgraded-rights token handle.key st.rights ordered.rights (not_busy (conflict handle.key Excl token st.rights) (none_first (busy (conflict handle.key Excl token st.rights)) [] own.2).0))
      (keys-with_right (IsOpen st.ledger) token handle.key Excl st.rights ordered.held own.0)
  told_ordered (DowngradeRight token handle) none =
      let own = on_right token handle Excl None none in
      rights_ordered st _ (with_right token handle.key Shared st.rights) ordered
      (downgraded-rights token handle.key st.rights ordered.rights own.1)
      (keys-with_right (IsOpen st.ledger) token handle.key Shared st.rights ordered.held own.0)
  told_ordered GetSpace none = still_ordered st _ _ _ st.flags ordered
  told_ordered call none = still_ordered st _ _ _ st.flags ordered

  told_where : (call : DmCall) (why : Option DmRefusal) → dm_judged s st sid call ≡ why → InOrder (dm_state_where why s st sid call)
  told_where call None is = told_ordered call is
  told_where call (Some why) is = still_ordered st _ _ _ st.flags ordered

-- after the call of a session
pub dm_ordered : (s : Superblock) (st : State) (sid : Sid) (call : DmCall) → InOrder st → InOrder (dm_state_after s st sid call)
dm_ordered s st sid call ordered = told_where s st sid ordered call (dm_judged s st sid call) refl

-- ---- an event of a caller

-- of whoever waits now: the access that is left is one that waited, or one without a response that waits for the newest token
at_caller : (P : Option Access → Type 0) (c d : ℕ) (value : Option Access) (pending : ℕ → Option Access) → P value → P (pending d) → P (set_at c value pending d)
at_caller P c d value pending here there = elim (d == c) as (λ b. P (if b then value else pending d)) [ true ↦ here | false ↦ there ]

abbrev same_tokens : Ledger → (ℕ → Option Access) → Ledger
same_tokens L pending = record L { pending = pending }

-- an event that gives no token
replied_ordered : (st : State) (held : Held) (stamps : FileKey → ℕ) (n : ℕ) (flags : ℕ → Flags) (c : ℕ) (left : Option Access) → InOrder st → IfSome left (λ a. Awaits st.ledger a.token a.answer)
    → InOrder (record { held = held; stamps = stamps; number = n; sessions = st.sessions; rights = st.rights; flags = flags; ledger = same_tokens st.ledger (set_at c left st.ledger.pending) })
replied_ordered st held stamps n flags c left ordered is = record {
  ascend = ordered.ascend;
  once = ordered.once;
  given = ordered.given;
  none = ordered.none;
  waits = λ d. at_caller (λ x. IfSome x (λ a. Awaits st.ledger a.token a.answer)) c d left st.ledger.pending is (ordered.waits d);
  rights = ordered.rights;
  held = ordered.held;
}

-- an event is posted under the next token
pub posted_ordered : (st : State) (kind : Kind) (handle : Handle) (told : Range) → InOrder st
    → InOrder (record st { sessions = posted (event_message kind (next_token st.ledger) handle told) st.sessions; ledger = record st.ledger { top = st.ledger.top + 1; «open» = set_at (st.ledger.top + 1) true st.ledger.open } })
posted_ordered st kind handle told ordered =
    let L : Ledger = st.ledger in
    let m : Message = event_message kind (next_token L) handle told in
    record {
      ascend = posted-ascends m st.sessions ordered.ascend;
      once = λ u some. opened_once L.open L.top u (next_token L) (places u st.sessions) _ refl ordered.given (ordered.once u some) (places-posted u m st.sessions);
      given = opened_given L.open L.top (L.top + 1) refl ordered.given;
      none = opened_none L.open (L.top + 1) (omega arith) ordered.none;
      waits = λ c. moved_waits L (record L { top = L.top + 1; «open» = set_at (L.top + 1) true L.open }) (omega arith) (fresh_open L) (L.pending c) (ordered.waits c);
      rights = ordered.rights;
      held = All-weaker (IsOpen L) _ (still_open st ordered) (keys_of st.rights) ordered.held;
    }

-- and the access parks on it
parked_ordered : (s : Superblock) (st : State) (c : ℕ) (fl : Flags) (k : FileKey) (call : Call) (kind : Kind) → InOrder st → InOrder (left_by_verdict s st c fl k call (Some (Posts kind)))
parked_ordered s st c fl k call kind ordered =
    let L : Ledger = st.ledger in
    let new = posted_ordered st kind (record { fsid = s.fsid; key = k }) (told_span call (shortage s st.held k call) kind) ordered in
    record {
      ascend = new.ascend;
      once = new.once;
      given = new.given;
      none = new.none;
      waits = λ d. at_caller (λ x. IfSome x (λ a. Awaits (ledger_replied L c (Means k call) (Parked (next_token L))) a.token a.answer)) c d _ L.pending
          (omega arith, let at : (L.top + 1 == L.top + 1) ≡ true = eq-eqb (L.top + 1) (L.top + 1) refl in rw at refl) (new.waits d);
      rights = new.rights;
      held = new.held;
    }

done_ordered : (s : Superblock) (st : State) (c : ℕ) (fl : Flags) (k : FileKey) (call : Call) → InOrder st → InOrder (left_by_verdict s st c fl k call None)
done_ordered s st c fl k (Create name) ordered = replied_ordered st _ _ _ _ c None ordered tt
done_ordered s st c fl k (Read name offset len) ordered = replied_ordered st _ _ _ _ c None ordered tt
done_ordered s st c fl k (Stat name) ordered = replied_ordered st _ _ _ _ c None ordered tt
done_ordered s st c fl k call ordered = replied_ordered st _ _ _ _ c None ordered tt

verdict_ordered : (s : Superblock) (st : State) (c : ℕ) (fl : Flags) (k : FileKey) (call : Call) (v : Verdict) → InOrder st → InOrder (left_by_verdict s st c fl k call v)
verdict_ordered s st c fl k call None ordered = done_ordered s st c fl k call ordered
verdict_ordered s st c fl k call (Some (Blocks t)) ordered = replied_ordered st _ _ _ _ c (Some (record { key = k; call = call; token = None; answer = None })) ordered refl
verdict_ordered s st c fl k call (Some (Posts kind)) ordered = parked_ordered s st c fl k call kind ordered
verdict_ordered s st c fl k call (Some (Lacks need free)) ordered = replied_ordered st _ _ _ _ c None ordered tt

meant_ordered : (s : Superblock) (st : State) (c : ℕ) (fl : Flags) (why : Option CallRefusal) (m : Meant) → InOrder st → Says m → InOrder (state_where s st c fl why m)
meant_ordered s st c fl why (Fixed (Refused Waiting)) ordered says = replied_ordered st _ _ _ _ c (st.ledger.pending c) ordered (ordered.waits c)
meant_ordered s st c fl why (Fixed (Refused Idle)) ordered says = replied_ordered st _ _ _ _ c (st.ledger.pending c) ordered (ordered.waits c)
meant_ordered s st c fl why (Fixed (Still t)) ordered says = replied_ordered st _ _ _ _ c (st.ledger.pending c) ordered (ordered.waits c)
meant_ordered s st c fl why (Fixed reply) ordered says = absurd says
meant_ordered s st c fl None (Means k call) ordered says = verdict_ordered s st c fl k call (verdict s st fl k call) ordered
meant_ordered s st c fl (Some why) (Means k call) ordered says = replied_ordered st _ _ _ _ c None ordered tt

-- after a caller's event
pub call_ordered : (s : Superblock) (st : State) (c : ℕ) (what : Action) → InOrder st → InOrder (state_after s st c what)
call_ordered s st c what ordered = meant_ordered s st c (flags_now st c what) (objection_in s st c what) (meant_in st c what) ordered (meant_says (names_of st.held.files) (st.ledger.pending c) what)

-- ---- any event

own_ordered : (s : Superblock) (st : State) (who : Actor) (what : Action) → InOrder st → InOrder (left_own s st who what)
own_ordered s st (Caller c) (Issue call) ordered = call_ordered s st c (Issue call) ordered
own_ordered s st (Caller c) Resume ordered = call_ordered s st c Resume ordered
own_ordered s st (Session sid) (Dm call) ordered = dm_ordered s st sid call ordered
own_ordered s st who what ordered = still_ordered st _ _ _ st.flags ordered

if_ordered : (fault : Bool) (st own : State) → InOrder st → InOrder own → InOrder (if fault then noted st else own)
if_ordered true st own still done = still_ordered st _ _ _ st.flags still
if_ordered false st own still done = done

pub event_ordered : (s : Superblock) (st : State) (e : Entry) → InOrder st → IsAnswer s st e.actor e.action e.answer → InOrder (left_by s st e.actor e.action e.answer)
event_ordered s st e ordered is =
    subst InOrder (sym (exact_left s st e.actor e.action e.answer is)) (if_ordered (is_fault e.answer) st (left_own s st e.actor e.action) ordered (own_ordered s st e.actor e.action ordered))

-- a store that was just opened has no sessions and no tokens
pub ordered_at_first : (base : ℕ) (h : Held) → InOrder (just_opened base h)
ordered_at_first base h = record { ascend = tt; once = λ u some. refl; given = λ n past. refl; none = refl; waits = λ c. tt; rights = no-rights; held = All-nil (IsOpen no_ledger) }

-- each exact run leaves them so
pub state_ordered : (s : Superblock) (st : State) (es : List Entry) → InOrder st → Exact s st es → InOrder (state_by s st es)
state_ordered s st [] ordered exact = ordered
state_ordered s st (e ∷ es) ordered exact = state_ordered s (left_by s st e.actor e.action e.answer) es (event_ordered s st e ordered exact.0) exact.2
