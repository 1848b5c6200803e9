-- Which events recall puts off in a quiet turn.
use Rattle.std.proofs.Common.{◌≡◌, ◌∙◌, ◌++◌, ◌&&◌, ℕ, Bool, true, false, List, [], ◌∷◌, Option, Some, None, IfSome, option_map, inl, inr, refl, sym}
use Rattle.std.proofs.Common.{ap, subst, append-nil, if◌then◌else◌, Contains, drop}
use Rattle.std.specs.Prelude.{nat_le}
use Rattle.std.specs.List.{AllByRecursion, cons_option, filter_map, list_all}
use Rattle.std.specs.Str.{bytes_eq}
use Rattle.std.proofs.lemmas.Bool.{false≢true}
use Rattle.std.proofs.lemmas.List.Elements.{Contains-append_left, Contains-push, recursion_from_All}
use Rattle.event_msgs.specs.Reading.{told as told_messages}
use Rattle.hsm_types.specs.Daemons.{information, kinds_of}
use Rattle.hsm_types.specs.Limits.{last_error}
use Rattle.hsm_types.specs.Messages.{is_lawful, takes}
use Rattle.hsm_types.specs.Rights.{Rights, conflict}
use Rattle.hsm_types.specs.declared.daemons.Act.{Act}
use Rattle.hsm_types.specs.declared.daemons.Act.TheVariants.{Dm, Idle}
use Rattle.hsm_types.specs.declared.daemons.Daemon.TheVariants.{Recall}
use Rattle.hsm_types.specs.declared.daemons.Heard.{Heard}
use Rattle.hsm_types.specs.declared.daemons.Heard.TheVariants as heard
use Rattle.hsm_types.specs.declared.dm.DmCall.{DmCall}
use Rattle.hsm_types.specs.declared.dm.DmCall.TheVariants.{CreateSession, GetAllSessions, QuerySession, SetDisp, GetEvents, GetAllTokens}
use Rattle.hsm_types.specs.declared.dm.DmCall.TheVariants.{FindEventMsg, Respond, RequestRight, GetFileAttr, GetAllocInfo, Restore}
use Rattle.hsm_types.specs.declared.dm.DmRefusal.{DmRefusal}
use Rattle.hsm_types.specs.declared.dm.DmRefusal.TheVariants as why
use Rattle.hsm_types.specs.declared.dm.DmReply.{DmReply}
use Rattle.hsm_types.specs.declared.dm.DmReply.TheVariants as reply
use Rattle.hsm_types.specs.declared.dm.Response.{Response}
use Rattle.hsm_types.specs.declared.dm.Response.TheVariants.{Continue, Abort, Media}
use Rattle.hsm_types.specs.declared.dm.Right.{Right}
use Rattle.hsm_types.specs.declared.dm.Right.TheVariants.{Excl}
use Rattle.hsm_types.specs.declared.keys.Handle.{Handle}
use Rattle.hsm_types.specs.declared.keys.Sid.{Sid}
use Rattle.hsm_types.specs.declared.keys.Token.{Token}
use Rattle.hsm_types.specs.declared.messages.Message.{Message}
use Rattle.hsm_types.specs.declared.stores.Superblock.{Superblock}
use Rattle.hsm_types.specs.declared.stubs.StubEntry.{StubEntry}
use Rattle.plain_model.specs.declared.entries.Action.TheVariants as action
use Rattle.plain_model.specs.declared.entries.Actor.TheVariants.{Session}
use Rattle.plain_model.specs.declared.entries.Answer.TheVariants as answer
use Rattle.plain_model.specs.declared.entries.Entry.{Entry}
use Rattle.plain_model.specs.Services.{dm_reply_to}
use Rattle.plain_model.specs.State.{State}
use Rattle.hsm_core.specs.Answers.{entry_of}
use Rattle.daemon_session.specs.declared.events.Kept.{Kept}
use Rattle.daemon_session.specs.Seats.{Seat, no_seat, found_one, forgot, marked_at, all_marked, seat_hears}
use Rattle.daemon_session.specs.Tellings.{event_on, own_event, events_in}
use Rattle.recall_daemon.specs.Known.{Known, Hand, hears, asks, knows_by, IsReason, ArePutOff, MayCall, MayFetch}
use Rattle.hsm_system.specs.Asking.{NonePutOff, IsEmptyHanded}
use Rattle.marked_history.specs.Quiet.{is_quiet, is_quiet_event}
use Rattle.marked_history.specs.Served.{IsTold}
use Rattle.hsm_replay.specs.Settled.{IsStillRefused, AreStillRefused}
use Rattle.hsm_replay.specs.Turns.{Stands, IsEarly, IsKeptBack}
use Rattle.hsm_system.proofs.Asked.{none_put_off}
use Rattle.marked_history.proofs.Lists.{all_weaker, all_then}
use Rattle.hsm_replay.proofs.Kept.{all_forgot, told_forgot, told_marked, all_marked_at, has_token, told_unmarked, told_more}
use Rattle.marked_history.proofs.QuietEvents.{all_quiet_append}
use Rattle.hsm_replay.proofs.Refusals.{RefusesRight, RefusesResponse, right_refused, response_refused}

-- where it is put off it is held up
abbrev pub IsUp : List Entry → Rights → Seat → Kept → Type 0
IsUp entries rights seat k = k.marked ≡ true → IsStillRefused entries rights seat k.event.token

-- of what is not put off nothing is asked
none_up : (entries : List Entry) (rights : Rights) (seat : Seat) (kept : List Kept) → NonePutOff kept → AllByRecursion (IsUp entries rights seat) kept
none_up entries rights seat kept none = all_weaker (λ (k : Kept). k.marked ≡ false) (IsUp entries rights seat) kept (λ k is marked. absurd (false≢true (sym is ∙ marked))) none

-- ---- what a seat hears of other calls

-- it has the same session, and perhaps more events
record Grows (old new : Seat) : Type 0 where
  sid : new.sid ≡ old.sid
  more : List Kept
  kept : new.kept ≡ old.kept ++ more
  fresh : NonePutOff more

with_same : (old new : Seat) → new.sid ≡ old.sid → new.kept ≡ old.kept → Grows old new
with_same old new sid kept = record { sid = sid; more = []; kept = kept ∙ sym (append-nil old.kept); fresh = tt }

own_fresh : (b : Bool) (m : Message) (h : Option Handle) → IfSome (if b then option_map (λ (x : Handle). record { event = event_on m x; marked = false }) h else None) (λ (k : Kept). k.marked ≡ false)
own_fresh true m None = tt
own_fresh true m (Some h) = refl
own_fresh false m h = tt

fresh_more : (o : Option Kept) (kept : List Kept) → IfSome o (λ (k : Kept). k.marked ≡ false) → NonePutOff kept → NonePutOff (cons_option o kept)
fresh_more None kept one all = all
fresh_more (Some k) kept one all = (one, all)

list_fresh : (messages : List Message) → NonePutOff (filter_map (own_event Recall) messages)
list_fresh [] = tt
list_fresh (m ∷ more) = fresh_more (own_event Recall m) (filter_map (own_event Recall) more) (own_fresh (takes (kinds_of Recall) m.kind) m m.handle) (list_fresh more)

events_fresh : (bytes : List ℕ) → NonePutOff (events_in Recall bytes)
events_fresh bytes = list_fresh (told_messages bytes)

-- a call that neither begins anew nor is on an event
abbrev IsOther : DmCall → Type 0
IsOther GetAllSessions = ⊥
IsOther (CreateSession old info) = ⊥
IsOther (RequestRight t h right) = ⊥
IsOther (GetFileAttr t h) = ⊥
IsOther (GetAllocInfo t h) = ⊥
IsOther (Restore t h segment bytes) = ⊥
IsOther (Respond t response) = ⊥
IsOther call = Unit {0}

abbrev finds : Sid → Seat → Seat
finds target s = record s { found = Some target }

abbrev passes : Seat → Seat
passes s = record s { others = option_map (λ (ids : List Sid). drop 1 ids) s.others }

told_grows : (b : Bool) (target : Sid) (s : Seat) → Grows s (if b then finds target s else passes s)
told_grows true target s = with_same s (finds target s) refl refl
told_grows false target s = with_same s (passes s) refl refl

seat_grows : (s : Seat) (call : DmCall) (told : DmReply) → IsOther call → Grows s (seat_hears Recall s call told)
seat_grows s GetAllSessions told other = absurd other
seat_grows s (CreateSession old info) told other = absurd other
seat_grows s (Respond t response) told other = absurd other
seat_grows s (QuerySession target) (reply.Info info) other = told_grows (bytes_eq info (information Recall)) target s
seat_grows s (SetDisp kinds) reply.Done other = with_same s (record s { set = true }) refl refl
seat_grows s GetAllTokens (reply.Tokens tokens) other = with_same s (record s { unfound = Some tokens }) refl refl
seat_grows s (FindEventMsg t room) (reply.Packed bytes tokens) other = record { sid = refl; more = events_in Recall bytes; kept = refl; fresh = events_fresh bytes }
seat_grows s (FindEventMsg t room) (reply.Refused why.NoToken) other = with_same s (found_one s) refl refl
seat_grows s (FindEventMsg t room) (reply.Refused (why.NotYours owner)) other = with_same s (found_one s) refl refl
seat_grows s (GetEvents most room) (reply.Packed bytes tokens) other = record { sid = refl; more = events_in Recall bytes; kept = refl; fresh = events_fresh bytes }
seat_grows s call told other = with_same s s refl refl

-- a seat without a session hears of none of its events
sessions_none : (told : DmReply) → (seat_hears Recall no_seat GetAllSessions told).kept ≡ []
sessions_none (reply.Sids ids) = refl
sessions_none told = refl

session_none : (old : Sid) (info : List ℕ) (told : DmReply) → (seat_hears Recall no_seat (CreateSession old info) told).kept ≡ []
session_none old info (reply.Session sid) = refl
session_none old info told = refl

-- ---- what is held up stays so

module _ (entries : List Entry) (rights : Rights) (e : Entry) where
  abbrev all_now : List Entry
  all_now = entries ++ e ∷ []

  still_up : (old new : Seat) (t : Token) → new.sid ≡ old.sid → ((h : Handle) → IsTold old.kept t h → IsTold new.kept t h) → IsStillRefused entries rights old t → IsStillRefused all_now rights new t
  still_up old new t sid told up = record {
    sid = up.sid;
    handle = up.handle;
    holder = up.holder;
    session = sid ∙ up.session;
    told = told up.handle up.told;
    refused = Contains-append_left entries (e ∷ []) _ up.refused;
    holds = up.holds;
  }

  grows_up : (old new : Seat) → Grows old new → AllByRecursion (IsUp entries rights old) old.kept → AllByRecursion (IsUp all_now rights new) new.kept
  grows_up old new grows all = subst (λ (kept : List Kept). AllByRecursion (IsUp all_now rights new) kept) (sym grows.kept) (all_then (IsUp all_now rights new) old.kept grows.more
      (all_weaker (IsUp entries rights old) (IsUp all_now rights new) old.kept (λ k up marked. still_up old new k.event.token grows.sid (λ h told. subst (λ (kept : List Kept). IsTold kept k.event.token h) (sym grows.kept) (told_more old.kept grows.more k.event.token h told)) (up marked)) all)
      (none_up all_now rights new grows.more grows.fresh))

  same_up : (seat : Seat) → AllByRecursion (IsUp entries rights seat) seat.kept → AllByRecursion (IsUp all_now rights seat) seat.kept
  same_up seat all = grows_up seat seat (with_same seat seat refl refl) all

  forgot_up : (seat : Seat) (t : Token) → AllByRecursion (IsUp entries rights seat) seat.kept → AllByRecursion (IsUp all_now rights (record seat { kept = forgot t seat.kept })) (forgot t seat.kept)
  forgot_up seat t all = all_forgot t (IsUp entries rights seat) (IsUp all_now rights (record seat { kept = forgot t seat.kept })) seat.kept
      (λ k other up marked. still_up seat (record seat { kept = forgot t seat.kept }) k.event.token refl (λ h told. told_forgot t seat.kept k h other told) (up marked)) all

  marked_up : (seat : Seat) (t : Token) → IsStillRefused all_now rights (record seat { kept = marked_at t seat.kept }) t → AllByRecursion (IsUp entries rights seat) seat.kept → AllByRecursion (IsUp all_now rights (record seat { kept = marked_at t seat.kept })) (marked_at t seat.kept)
  marked_up seat t new all = all_marked_at t (IsUp entries rights seat) (IsUp all_now rights (record seat { kept = marked_at t seat.kept })) seat.kept
      (λ k is marked. subst (λ (u : Token). IsStillRefused all_now rights (record seat { kept = marked_at t seat.kept }) u) (sym (has_token t k is)) new)
      (λ k up marked. still_up seat (record seat { kept = marked_at t seat.kept }) k.event.token refl (λ h told. told_marked t seat.kept k.event.token h told) (up marked)) all

-- ---- a call in a quiet turn

lawful : (kept : List Kept) (hand : Hand) (asked : Act) (told : Heard) (response : Response) → IsReason kept hand asked told response → is_lawful response ≡ true
lawful kept hand asked told Continue is = refl
lawful kept hand asked told (Media cause) is = refl
lawful kept hand asked told (Abort error) (inl lost) = subst (λ (n : ℕ). (nat_le 1 n && nat_le n last_error) ≡ true) (sym lost.0) refl
lawful kept hand asked told (Abort error) (inr short) = subst (λ (n : ℕ). (nat_le 1 n && nat_le n last_error) ≡ true) (sym short.0) refl

-- a turn with a right isn't quiet
no_right : (entries : List Entry) (asked : Act) (told : Heard) (sid : Sid) (t : Token) (h : Handle) → Stands entries asked told → asked ≡ Dm sid (RequestRight t h Excl) → told ≡ heard.Dm reply.Done → list_all is_quiet entries ≡ true → ⊥
no_right entries asked told sid t h stands is says quiet =
    let last = subst (λ (x : Heard). Stands entries (Dm sid (RequestRight t h Excl)) x) says (subst (λ (a : Act). Stands entries a told) is stands) in
    let parts = all_quiet_append last.0 (entry_of (Session sid) (action.Dm (RequestRight t h Excl)) (answer.Dm reply.Done) ∷ []) (ap (λ (xs : List Entry). list_all is_quiet xs) (sym last.1) ∙ quiet) in
    false≢true parts.1

module _ (entries : List Entry) (k : Known) (asked : Act) (told : Heard) (s : Superblock) (st : State) (back : IsKeptBack entries st.rights k asked) (stands : Stands entries asked told) (sid : Sid) where
  abbrev IsBackAt : Entry → Known → Act → Type 0
  IsBackAt e now act = IsKeptBack (entries ++ e ∷ []) st.rights now act

  module _ (t : Token) (h : Handle) (right : Right) (may : MayCall k asked told sid (RequestRight t h right)) where
    abbrev request : DmReply → Entry
    request given = entry_of (Session sid) (action.Dm (RequestRight t h right)) (answer.Dm given)

    abbrev AfterRequest : DmReply → Type 0
    AfterRequest given = IsBackAt (request given) (hears (asks k (RequestRight t h right)) (RequestRight t h right) given) (Dm sid (RequestRight t h right))

    requested : (holder : Token) (seat : Seat) → seat.sid ≡ k.seat.sid → IsTold seat.kept t h → conflict h.key right t st.rights ≡ Some holder → IsStillRefused (entries ++ request (reply.Refused (why.Busy holder)) ∷ []) st.rights seat t
    requested holder seat same about held = record {
      sid = sid;
      handle = h;
      holder = holder;
      session = same ∙ may.0.session;
      told = about;
      refused = subst (λ (r : Right). Contains (entries ++ request (reply.Refused (why.Busy holder)) ∷ []) (entry_of (Session sid) (action.Dm (RequestRight t h r)) (answer.Dm (reply.Refused (why.Busy holder))))) may.1 (Contains-push entries (request (reply.Refused (why.Busy holder))));
      holds = subst (λ (r : Right). conflict h.key r t st.rights ≡ Some holder) may.1 held;
    }

    -- it is told of the event that it asks for
    next_told : IsTold k.seat.kept t h
    next_told = let next = may.3 in (next.0, (false, next.1.is_kept), next.2, next.3)

    after_refusal : (w : DmRefusal) → RefusesRight (conflict h.key right t st.rights) w → AfterRequest (reply.Refused w)
    after_refusal why.NoObject is = record { early = tt; unsized = refl; held_up = same_up entries st.rights (request (reply.Refused why.NoObject)) k.seat back.held_up }
    after_refusal why.NoToken is = record { early = tt; unsized = tt; held_up = forgot_up entries st.rights (request (reply.Refused why.NoToken)) k.seat t back.held_up }
    after_refusal (why.NotYours owner) is = record { early = tt; unsized = tt; held_up = forgot_up entries st.rights (request (reply.Refused (why.NotYours owner))) k.seat t back.held_up }
    after_refusal why.NoSession is = record { early = tt; unsized = refl; held_up = same_up entries st.rights (request (reply.Refused why.NoSession)) k.seat back.held_up }
    after_refusal (why.Busy holder) is = record {
      early = tt;
      unsized = tt;
      held_up = marked_up entries st.rights (request (reply.Refused (why.Busy holder))) k.seat t (requested holder (record (k.seat) { kept = marked_at t k.seat.kept }) refl (told_marked t k.seat.kept t h next_told) is) back.held_up;
    }
    after_refusal other is = absurd is

    after_request : (given : DmReply) → given ≡ dm_reply_to s st sid (RequestRight t h right) → is_quiet_event (action.Dm (RequestRight t h right)) (answer.Dm given) ≡ true → AfterRequest given
    after_request (reply.Refused w) own quiet = after_refusal w (right_refused s st sid w t h right own)
    after_request given own quiet = absurd (false≢true quiet)

  module _ (t : Token) (response : Response) (may : MayCall k asked told sid (Respond t response)) where
    abbrev answers : DmReply → Entry
    answers given = entry_of (Session sid) (action.Dm (Respond t response)) (answer.Dm given)

    abbrev AfterResponse : DmReply → Type 0
    AfterResponse given = IsBackAt (answers given) (hears (asks k (Respond t response)) (Respond t response) given) (Dm sid (Respond t response))

    after_no : (w : DmRefusal) → RefusesResponse w → AfterResponse (reply.Refused w)
    after_no why.NoToken is = record { early = tt; unsized = tt; held_up = forgot_up entries st.rights (answers (reply.Refused why.NoToken)) k.seat t back.held_up }
    after_no (why.NotYours owner) is = record { early = tt; unsized = tt; held_up = forgot_up entries st.rights (answers (reply.Refused (why.NotYours owner))) k.seat t back.held_up }
    after_no why.NoSession is = record { early = tt; unsized = tt; held_up = same_up entries st.rights (answers (reply.Refused why.NoSession)) k.seat back.held_up }
    after_no other is = absurd is

    after_response : (given : DmReply) → given ≡ dm_reply_to s st sid (Respond t response) → is_quiet_event (action.Dm (Respond t response)) (answer.Dm given) ≡ true → AfterResponse given
    after_response (reply.Refused w) own quiet = let m = may.1 in after_no w (response_refused s st sid w t response (lawful k.seat.kept m.0 asked told response m.3) own)
    after_response given own quiet = absurd (false≢true quiet)

  abbrev After : DmCall → DmReply → Type 0
  After call given = IsKeptBack (entries ++ entry_of (Session sid) (action.Dm call) (answer.Dm given) ∷ []) st.rights (hears (asks k call) call given) (Dm sid call)

  after_other : (call : DmCall) (given : DmReply) → IsOther call → AllByRecursion (IsUp (entries ++ entry_of (Session sid) (action.Dm call) (answer.Dm given) ∷ []) st.rights (seat_hears Recall k.seat call given)) (seat_hears Recall k.seat call given).kept
  after_other call given other = grows_up entries st.rights (entry_of (Session sid) (action.Dm call) (answer.Dm given)) k.seat (seat_hears Recall k.seat call given) (seat_grows k.seat call given other) back.held_up

  none_kept : (es : List Entry) (seat : Seat) → seat.kept ≡ [] → AllByRecursion (IsUp es st.rights seat) seat.kept
  none_kept es seat none = subst (λ (kept : List Kept). AllByRecursion (IsUp es st.rights seat) kept) (sym none) tt

  pub after_call : (call : DmCall) (given : DmReply) → MayCall k asked told sid call → given ≡ dm_reply_to s st sid call → list_all is_quiet entries ≡ true → is_quiet_event (action.Dm call) (answer.Dm given) ≡ true → After call given
  after_call (RequestRight t h right) given may own before quiet = after_request t h right may given own quiet
  after_call (Respond t response) given may own before quiet = after_response t response may given own quiet
  after_call (GetFileAttr t h) given may own before quiet = absurd (no_right entries asked told sid t h stands may.1.0 may.1.1 before)
  after_call (GetAllocInfo t h) given may own before quiet = absurd (subst (λ (a : Act). IsEarly a) may.1 back.early)
  after_call (Restore t h segment bytes) given may own before quiet = let m = may.1 in absurd (subst (λ (a : Act). IsEarly a) m.5 back.early)
  after_call GetAllSessions given may own before quiet = record { early = tt; unsized = tt; held_up = none_kept _ (seat_hears Recall no_seat GetAllSessions given) (sessions_none given) }
  after_call (CreateSession old info) given may own before quiet = record { early = tt; unsized = tt; held_up = none_kept _ (seat_hears Recall no_seat (CreateSession old info) given) (session_none old info given) }
  after_call call given may own before quiet = record { early = tt; unsized = back.unsized; held_up = after_other call given tt }

module _ (entries : List Entry) (rights : Rights) (k : Known) (asked : Act) (told : Heard) (back : IsKeptBack entries rights k asked) where
  -- it fetches nothing
  pub after_fetch : (entry : StubEntry) → MayFetch k asked told entry → ⊥
  after_fetch entry may =
      let m = may.1 in
      let unsized : m.0.size ≡ None = subst (λ (o : Option Hand). IfSome o (λ (hand : Hand). hand.size ≡ None)) m.2 back.unsized in
      let sized : m.0.size ≡ Some m.5.size = m.5.sized in
      let wrong : None ≡ Some m.5.size = sym unsized ∙ sized in
      cc wrong

  -- ---- a rest

  abbrev rested : Seat
  rested = record (k.seat) { kept = all_marked false k.seat.kept }

  pub after_rest : IsKeptBack entries rights (record k { seat = rested }) Idle
  after_rest = record { early = tt; unsized = back.unsized; held_up = none_up entries rights rested (all_marked false k.seat.kept) (none_put_off k.seat.kept) }

  still_at_rest : (t : Token) → IsStillRefused entries rights k.seat t → IsStillRefused entries rights rested t
  still_at_rest t up = record { sid = up.sid; handle = up.handle; holder = up.holder; session = up.session; told = told_unmarked k.seat.kept t up.handle up.told; refused = up.refused; holds = up.holds }

  all_at_rest : (kept : List Kept) → AllByRecursion (λ (x : Kept). x.marked ≡ true) kept → AllByRecursion (IsUp entries rights k.seat) kept → AllByRecursion (λ (x : Kept). IsStillRefused entries rights rested x.event.token) (all_marked false kept)
  all_at_rest [] put_off up = tt
  all_at_rest (x ∷ more) put_off up = (still_at_rest x.event.token (up.0 put_off.0), all_at_rest more put_off.1 up.1)

  -- what it has put off was held up
  pub held_up_at_rest : ArePutOff k.seat.kept → AreStillRefused entries rights rested
  held_up_at_rest put_off = all_at_rest k.seat.kept (recursion_from_All (λ (x : Kept). x.marked ≡ true) k.seat.kept put_off) back.held_up

-- ---- at a turn's beginning

no_hand : (hand : Option Hand) → hand ≡ None → IfSome hand (λ (x : Hand). x.size ≡ None)
no_hand hand none = subst (λ (o : Option Hand). IfSome o (λ (x : Hand). x.size ≡ None)) (sym none) tt

pub kept_back_first : (rights : Rights) (k : Known) (asked : Act) (told : Heard) → asked ≡ Idle → IsEmptyHanded k asked → IsKeptBack [] rights (knows_by k asked told) asked
kept_back_first rights k asked told idle free =
    let empty : IsEmptyHanded k Idle = subst (λ (a : Act). IsEmptyHanded k a) idle free in
    subst (λ (a : Act). IsKeptBack [] rights (knows_by k a told) a) (sym idle) (record { early = tt; unsized = no_hand k.hand empty.0; held_up = none_up [] rights k.seat k.seat.kept empty.1 })
