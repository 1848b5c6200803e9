-- What calls of sessions leave of the tables.
use Rattle.std.proofs.Common.{◌≡◌, ℕ, ◌+◌, ◌-◌, ◌<◌, ◌≤◌, List, [], ◌∷◌, ◌++◌, Bool, true, false, Option, None, Some, refl, sym, ◌∙◌, ap, subst, arith}
use Rattle.std.proofs.lemmas.Bool.Decides.{nat_tests}
use Rattle.std.specs.Prelude.{◌==◌, ◌&&◌, not, is_some, if◌then◌else◌, Result, Ok, Err, IfOk, OnOk, OnErr}
use Rattle.std.specs.Option.{option_map}
use Rattle.hsm_types.specs.Limits.{most_tokens}
use Rattle.hsm_types.specs.Calls.{scope_of}
use Rattle.hsm_types.specs.Refusals.{first_refusal}
use Rattle.hsm_types.specs.Messages.{is_lawful}
use Rattle.hsm_types.specs.Rights.{released}
use Rattle.hsm_types.specs.Sessions.{SessionTable, lives, dead_session, bad_response, responded, user_event}
use Rattle.hsm_types.specs.declared.keys.Sid.{Sid}
use Rattle.hsm_types.specs.declared.keys.Token.{Token}
use Rattle.hsm_types.specs.declared.dm.Response.{Response}
use Rattle.hsm_types.specs.declared.dm.DmCall.{DmCall}
use Rattle.hsm_types.specs.declared.dm.DmCall.TheVariants.{Respond, CreateUserEvent, GetSpace}
use Rattle.hsm_types.specs.declared.dm.DmRefusal.{DmRefusal}
use Rattle.hsm_types.specs.declared.dm.DmReply.{DmReply}
use Rattle.hsm_types.specs.declared.dm.DmReply.TheVariants as reply
use Rattle.hsm_types.specs.Keyed.{set_at}
use Rattle.plain_model.specs.Ledger.{next_token, waits_for, answered as reached}
use Rattle.plain_model.specs.State.{State, noted}
use Rattle.plain_model.specs.Services.{bad_own_token, scope_refusals, dm_judged, dm_reply_where, dm_reply_to, dm_state_where}
use Rattle.plain_model.specs.Stands.{InOrder}
use Rattle.plain_model.proofs.Judged.{none_first}
use Rattle.plain_model.proofs.Orders.{owned_open, dm_ordered}
use Rattle.access_park.specs.Pending.{is_token, given, answered, access_of, waiting_in}
use Rattle.access_park.specs.Laws.{CountsWaiting}
use Rattle.access_park.specs.declared.access.Access.{Access}
use Rattle.access_park.proofs.Counting.{counts_waiting}
use Rattle.dm_service.specs.Tables.{Tables, waiting, is_open, pending_as, flags_in, flags_or_none, ledger_of, seen, open_among, awaited_in, AreKept}
use Rattle.dm_service.specs.Services.{asks_sessions, asks_tables, any_superblock, session_refusals, with_sessions, own_refusal, whole_refusal}
use Rattle.dm_service.specs.Services.{AreBoth, IsServedByTables, IsTold, Judges, JudgesOrLacks, is_due, entries_for}
use Rattle.dm_service.proofs.Refusing.{all_pass, one_stops, alone}
use Rattle.dm_service.proofs.Ledgers.{shown, still_ordered, open_as}
use Rattle.dm_service.proofs.Awaiting.{closed, opened, within_top}

-- what is asked after a call that nothing refuses
passed : (t : Tables) (sid : Sid) (call : DmCall) → InOrder (seen t) → dm_judged any_superblock (seen t) sid call ≡ None → InOrder (dm_state_where None any_superblock (seen t) sid call)
passed t sid call ordered none = subst (λ why. InOrder (dm_state_where why any_superblock (seen t) sid call)) none (dm_ordered any_superblock (seen t) sid call ordered)

-- ---- calls that open and close no token

judged_by : (t : Tables) (sid : Sid) (call : DmCall) → asks_sessions call ≡ true → whole_refusal t.sessions sid call ≡ dm_judged any_superblock (seen t) sid call
judged_by t sid GetSpace asks = refl
judged_by t sid call asks = cc

told_by : (t : Tables) (sid : Sid) (call : DmCall) (why : Option DmRefusal) → asks_sessions call ≡ true → dm_reply_where why any_superblock (with_sessions t.sessions) sid call ≡ dm_reply_where why any_superblock (seen t) sid call
told_by t sid call (Some why) asks = refl
told_by t sid GetSpace None asks = refl
told_by t sid call None asks = cc

-- they leave all but the sessions
rest_by : (t : Tables) (sid : Sid) (call : DmCall) (why : Option DmRefusal) → asks_sessions call ≡ true
    → dm_state_where why any_superblock (seen t) sid call ≡ record (noted (seen t)) { sessions = (dm_state_where why any_superblock (with_sessions t.sessions) sid call).sessions }
rest_by t sid call (Some why) asks = refl
rest_by t sid GetSpace None asks = refl
rest_by t sid call None asks = cc

-- what refuses them beside their session and token
scope_same : (t : SessionTable) (sid : Sid) (call : DmCall) → asks_sessions call ≡ true → scope_refusals any_superblock (with_sessions t) sid (scope_of call) ≡ session_refusals t sid (scope_of call)
scope_same t sid GetSpace asks = refl
scope_same t sid call asks = cc

module _ (t : SessionTable) (sid : Sid) (call : DmCall) (asks : asks_sessions call ≡ true) where
  judged : whole_refusal t sid call ≡ first_refusal (session_refusals t sid (scope_of call) ++ own_refusal t sid call ∷ [])
  judged = ap (λ scope. first_refusal (scope ++ own_refusal t sid call ∷ [])) (scope_same t sid call asks)

  pub told_inside : {E : Type 0} (result : Result (DmReply × DmReply) E) (u : SessionTable) → first_refusal (session_refusals t sid (scope_of call)) ≡ None → IsTold t sid call (own_refusal t sid call) result u
      → IsTold t sid call (whole_refusal t sid call) result u
  told_inside result u none told =
      subst (λ why. IsTold t sid call why result u) (sym (judged ∙ all_pass (session_refusals t sid (scope_of call)) (own_refusal t sid call ∷ []) none ∙ alone (own_refusal t sid call))) told

  pub told_outside : {E : Type 0} (why : DmRefusal) (r : DmReply × DmReply) → first_refusal (session_refusals t sid (scope_of call)) ≡ Some why → AreBoth (reply.Refused why) r → IsTold {E = E} t sid call (whole_refusal t sid call) (Ok r) t
  told_outside {E = E} why r refuses both =
      subst (λ w. IsTold {E = E} t sid call w (Ok r) t) (sym (judged ∙ one_stops (session_refusals t sid (scope_of call)) (own_refusal t sid call ∷ []) why refuses)) (record { replies = both; left = refl; memory = tt; err = tt })

module _ (t u : Tables) (n : ℕ) (kept : AreKept t n) (sid : Sid) (call : DmCall) (asks : asks_sessions call ≡ true) (tokens : u.tokens ≡ t.tokens) (rights : u.rights ≡ t.rights) (park : u.park ≡ t.park) where
  pub left_by : (why : Option DmRefusal) → dm_judged any_superblock (seen t) sid call ≡ why → u.sessions ≡ (dm_state_where why any_superblock (with_sessions t.sessions) sid call).sessions
      → (noted (seen u) ≡ dm_state_where why any_superblock (seen t) sid call) × AreKept u n × (awaited_in u ≡ awaited_in t)
  left_by why is sessions =
      let st : State = record (noted (seen t)) { sessions = (dm_state_where why any_superblock (with_sessions t.sessions) sid call).sessions } in
      let rest : dm_state_where why any_superblock (seen t) sid call ≡ st = rest_by t sid call why asks in
      let ordered : InOrder st = subst InOrder rest (subst (λ w. InOrder (dm_state_where w any_superblock (seen t) sid call)) is (dm_ordered any_superblock (seen t) sid call kept.ordered)) in
      let pending = λ (c : ℕ). ap (λ p. option_map pending_as (access_of p c)) park in
      let flags = λ (c : ℕ). ap (λ p. flags_or_none (access_of p c)) park in
      let open_same = open_as u st ordered sessions tokens rights pending flags in (
        shown u st ordered sessions tokens rights pending flags ∙ sym rest,
        record { ordered = still_ordered u st ordered sessions tokens rights pending flags; counted = kept.counted ∙ sym open_same; few = rw tokens kept.few },
        λ i. open_same i + waiting_in (access_of (park i)),
      )

  unchanged : u.sessions ≡ t.sessions → u ≡ t
  unchanged sessions i = record { sessions = sessions i; tokens = tokens i; rights = rights i; park = park i }

  pub served_by : {E : Type 0} (result : Result (DmReply × DmReply) E) → IsTold t.sessions sid call (whole_refusal t.sessions sid call) result u.sessions → IsServedByTables t sid call result u × AreKept u n × (awaited_in u ≡ awaited_in t)
  served_by (Ok r) told =
      let is = judged_by t sid call asks in
      let after = left_by (dm_judged any_superblock (seen t) sid call) refl (subst (λ why. u.sessions ≡ (dm_state_where why any_superblock (with_sessions t.sessions) sid call).sessions) is told.left) in (
        record {
          replies = subst (λ (x : DmReply). AreBoth x r) ((λ i. dm_reply_where (is i) any_superblock (with_sessions t.sessions) sid call) ∙ told_by t sid call (dm_judged any_superblock (seen t) sid call) asks) told.replies;
          left = after.0;
          memory = tt;
          err = tt;
        },
        after.1,
        after.2,
      )
  served_by (Err e) told =
      let same = unchanged told.err in
      (record { replies = tt; left = tt; memory = sym (judged_by t sid call asks) ∙ told.memory; err = same }, subst (λ x. AreKept x n) (sym same) kept, ap awaited_in same)

  -- so it is of a call that isn't answered by a reply
  pub changed_by : {T E : Type 0} (result : Result T E) → OnOk result (dm_judged any_superblock (seen t) sid call ≡ None) → OnOk result (u.sessions ≡ (dm_state_where None any_superblock (with_sessions t.sessions) sid call).sessions)
      → OnErr result (u.sessions ≡ t.sessions) → OnOk result (noted (seen u) ≡ dm_state_where None any_superblock (seen t) sid call) × AreKept u n × (awaited_in u ≡ awaited_in t)
  changed_by (Ok x) none after err = left_by None none after
  changed_by (Err e) none after err = (tt, subst (λ x. AreKept x n) (sym (unchanged err)) kept, ap awaited_in (unchanged err))

-- ---- a response

eqb-sym : (a b : ℕ) → (a == b) ≡ (b == a)
eqb-sym a b = grind (arith, nat_tests)

by_token : (t : Token) (r : Response) (a : Access) (token : Option Token) → option_map pending_as (if is_token t token then Some (given r a) else Some a) ≡ (if waits_for t token then Some (record (pending_as a) { answer = Some r }) else Some (pending_as a))
by_token t r a None = refl
by_token t r a (Some u) =
    let same : (u.0 == t.0) ≡ (t.0 == u.0) = eqb-sym u.0 t.0 in
    rw same (elim (t.0 == u.0) as (λ b. option_map pending_as (if b then Some (given r a) else Some a) ≡ (if b then Some (record (pending_as a) { answer = Some r }) else Some (pending_as a))) [ true ↦ refl | false ↦ refl ])

pending-answered : (t : Token) (r : Response) (p : Option Access) → option_map pending_as (answered t r p) ≡ reached t r (option_map pending_as p)
pending-answered t r None = refl
pending-answered t r (Some a) = by_token t r a a.token

flags-answered : (t : Token) (r : Response) (p : Option Access) → flags_or_none (answered t r p) ≡ flags_or_none p
flags-answered t r None = refl
flags-answered t r (Some a) = elim (is_token t a.token) as (λ b. flags_or_none (if b then Some (given r a) else Some a) ≡ flags_in a) [ true ↦ refl | false ↦ refl ]

module _ (t : Tables) (n : ℕ) (kept : AreKept t n) (sid : Sid) (token : Token) (response : Response) (none : dm_judged any_superblock (seen t) sid (Respond token response) ≡ None) where
  own : (is_open t.sessions token.0 ≡ true) × (0 < token.0)
  own =
      let past = none_first (dead_session sid t.sessions) (bad_own_token sid token t.sessions ∷ bad_response response ∷ []) none in
      let is = owned_open (seen t) sid token kept.ordered (none_first (bad_own_token sid token t.sessions) (bad_response response ∷ []) past.1).0 in
      (is.0, is.1)

  one_less : open_among t.tokens (set_at token.0 false (is_open t.sessions)) + 1 ≡ n
  one_less = closed t.tokens token.0 (is_open t.sessions) own.1 (within_top (seen t) token.0 kept.ordered own.0) own.0 ∙ sym kept.counted

  pub some_open : 1 ≤ n
  some_open = let one = one_less in omega arith

  pub responded_by : (u : Tables) → u.sessions ≡ responded sid token t.sessions → u.tokens ≡ t.tokens → u.rights ≡ released token t.rights → access_of u.park ≡ (λ c. answered token response (waiting t c))
      → (noted (seen u) ≡ dm_state_where None any_superblock (seen t) sid (Respond token response)) × AreKept u (n - 1) × (awaited_in u + 1 ≡ awaited_in t)
  responded_by u sessions tokens rights park =
      let st : State = dm_state_where None any_superblock (seen t) sid (Respond token response) in
      let ordered : InOrder st = passed t sid (Respond token response) kept.ordered none in
      let pending = λ (c : ℕ). (λ i. option_map pending_as (park i c)) ∙ pending-answered token response (waiting t c) in
      let flags = λ (c : ℕ). (λ i. flags_or_none (park i c)) ∙ flags-answered token response (waiting t c) in
      let fewer = open_as u st ordered sessions tokens rights pending flags in
      let counts : CountsWaiting (waiting t) = counts_waiting (waiting t) in
      let wait : waiting_in (waiting u) ≡ waiting_in (waiting t) = ap waiting_in park ∙ counts.kept token response in
      let one = one_less in (
        shown u st ordered sessions tokens rights pending flags,
        record { ordered = still_ordered u st ordered sessions tokens rights pending flags; counted = omega (arith, fewer, one); few = rw tokens kept.few },
        omega (arith, fewer, one, wait, kept.counted),
      )

-- ---- an event of a session's own

module _ (t : Tables) (n : ℕ) (kept : AreKept t n) (sid : Sid) (body : List ℕ) (none : dm_judged any_superblock (seen t) sid (CreateUserEvent body) ≡ None) where
  pub made_by : (u : Tables) → u.sessions ≡ user_event sid (next_token (ledger_of t)) body t.sessions → u.tokens ≡ t.tokens + 1 → u.tokens ≤ most_tokens → u.rights ≡ t.rights → u.park ≡ t.park
      → (noted (seen u) ≡ dm_state_where None any_superblock (seen t) sid (CreateUserEvent body)) × AreKept u (n + 1) × (awaited_in u ≡ awaited_in t + 1)
  made_by u sessions tokens few rights park =
      let st : State = dm_state_where None any_superblock (seen t) sid (CreateUserEvent body) in
      let ordered : InOrder st = passed t sid (CreateUserEvent body) kept.ordered none in
      let pending = λ (c : ℕ). ap (λ p. option_map pending_as (access_of p c)) park in
      let flags = λ (c : ℕ). ap (λ p. flags_or_none (access_of p c)) park in
      let more = open_as u st ordered sessions tokens rights pending flags ∙ opened t.tokens (is_open t.sessions) in
      let wait : waiting_in (waiting u) ≡ waiting_in (waiting t) = ap (λ p. waiting_in (access_of p)) park in (
        shown u st ordered sessions tokens rights pending flags,
        record { ordered = still_ordered u st ordered sessions tokens rights pending flags; counted = omega (arith, more, kept.counted); few = few },
        omega (arith, more, wait),
      )

pub judged_none : (a b : Option DmRefusal) (response : Response) → first_refusal (a ∷ b ∷ []) ≡ None → is_lawful response ≡ true → first_refusal (a ∷ b ∷ bad_response response ∷ []) ≡ None
judged_none a b response none lawful = all_pass (a ∷ b ∷ []) (bad_response response ∷ []) none ∙ rw lawful refl

-- the first one that refuses, whatever comes behind
pub judged_first : (a b c : Option DmRefusal) (why : DmRefusal) → first_refusal (a ∷ b ∷ []) ≡ Some why → first_refusal (a ∷ b ∷ c ∷ []) ≡ Some why
judged_first (Some x) b c why is = is
judged_first None (Some x) c why is = is
judged_first None None c why is = absurd cc

-- so it was served
pub event_served : {E : Type 0} (t u : Tables) (sid : Sid) (body : List ℕ) (token : Token) → token ≡ next_token (ledger_of t) → dm_judged any_superblock (seen t) sid (CreateUserEvent body) ≡ None
    → noted (seen u) ≡ dm_state_where None any_superblock (seen t) sid (CreateUserEvent body) → IsServedByTables {E = E} t sid (CreateUserEvent body) (Ok (reply.Token token, reply.Token token)) u
event_served t u sid body token is none left =
    let told : reply.Token token ≡ dm_reply_to any_superblock (seen t) sid (CreateUserEvent body) = (λ i. reply.Token (is i)) ∙ (λ i. dm_reply_where (sym none i) any_superblock (seen t) sid (CreateUserEvent body)) in
    record { replies = (told, told); left = left ∙ (λ i. dm_state_where (sym none i) any_superblock (seen t) sid (CreateUserEvent body)); memory = tt; err = tt }

-- ---- for how much there is room

both : (a b : Bool) → (a && b) ≡ true → (a ≡ true) × (b ≡ true)
both true b is = (refl, is)
both false b is = absurd cc

no_refusal : (x : Option DmRefusal) → not (is_some x) ≡ true → x ≡ None
no_refusal None is = refl
no_refusal (Some why) is = absurd cc

-- nothing refuses a response that is due
pub due_passes : (t : SessionTable) (sid : Sid) (token : Token) (response : Response) → is_due t sid (Respond token response) ≡ true → first_refusal (dead_session sid t ∷ bad_own_token sid token t ∷ bad_response response ∷ []) ≡ None
due_passes t sid token response due =
    let first : Bool = lives sid t && not (is_some (bad_own_token sid token t)) in
    let lawful = both first (is_lawful response) due in
    let own = both (lives sid t) (not (is_some (bad_own_token sid token t))) lawful.0 in
    let not_dead : dead_session sid t ≡ None = rw own.0 refl in
    let outstanding : bad_own_token sid token t ≡ None = no_refusal (bad_own_token sid token t) own.1 in
    let may : bad_response response ≡ None = rw lawful.1 refl in
    λ i. first_refusal (not_dead i ∷ outstanding i ∷ may i ∷ [])

entry_for : (due : Bool) (n : ℕ) → (due ≡ true → ⊥) → n + 1 ≤ n + (if due then 0 else 1)
entry_for true n wrong = absurd (wrong refl)
entry_for false n wrong = omega arith

pub responded_room : {T : Type 0} (t u : Tables) (sid : Sid) (token : Token) (response : Response) (result : Result T DmRefusal)
    → Judges result (first_refusal (dead_session sid t.sessions ∷ bad_own_token sid token t.sessions ∷ bad_response response ∷ [])) → OnOk result (awaited_in u + 1 ≡ awaited_in t) → OnErr result (u ≡ t)
    → awaited_in u + 1 ≤ awaited_in t + entries_for t.sessions sid (Respond token response)
responded_room t u sid token response (Ok x) judged counted same = omega (arith, counted)
responded_room t u sid token response (Err why) judged counted same =
    rw same (entry_for (is_due t.sessions sid (Respond token response)) (awaited_in t) (λ due. let wrong : None ≡ Some why = sym (due_passes t.sessions sid token response due) ∙ judged in absurd (cc wrong)))

-- a call that opens and closes no token needs room for its own entry
own_entry : (t : SessionTable) (sid : Sid) (call : DmCall) → asks_sessions call ≡ true → entries_for t sid call ≡ 1
own_entry t sid GetSpace asks = refl
own_entry t sid call asks = cc

pub own_room : (t u : Tables) (sid : Sid) (call : DmCall) → asks_sessions call ≡ true → awaited_in u ≡ awaited_in t → awaited_in u + 1 ≤ awaited_in t + entries_for t.sessions sid call
own_room t u sid call asks same = let one = own_entry t.sessions sid call asks in omega (arith, same, one)

pub not_due : (t : SessionTable) (sid : Sid) (call : DmCall) → asks_sessions call ≡ true → is_due t sid call ≡ true → ⊥
not_due t sid (Respond token response) asks due = absurd cc
not_due t sid GetSpace asks due = absurd cc
not_due t sid call asks due = absurd cc

pub others : (call : DmCall) → asks_tables call ≡ true → ((token : Token) (response : Response) → call ≡ Respond token response → ⊥) → ((body : List ℕ) → call ≡ CreateUserEvent body → ⊥) → asks_sessions call ≡ true
others (Respond token response) asks not_response not_event = absurd (not_response token response refl)
others (CreateUserEvent body) asks not_response not_event = absurd (not_event body refl)
others GetSpace asks not_response not_event = asks
others call asks not_response not_event = asks

-- ---- where nothing refuses

pub ok_first : {T E : Type 0} (A : Type 0) (P : T → Type 0) (result : Result T E) → IfOk result (λ x. A × P x) → OnOk result A
ok_first A P (Ok x) is = is.0
ok_first A P (Err e) is = tt

pub ok_judged : {T : Type 0} (result : Result T DmRefusal) (refusal : Option DmRefusal) → JudgesOrLacks result refusal → OnOk result (refusal ≡ None)
ok_judged (Ok x) refusal is = is
ok_judged (Err e) refusal is = tt

pub ok_alone : {T E : Type 0} (result : Result T E) (refusal : Option DmRefusal) → OnOk result (refusal ≡ None) → OnOk result (first_refusal (refusal ∷ []) ≡ None)
ok_alone (Ok x) refusal is = alone refusal ∙ is
ok_alone (Err e) refusal is = tt
