-- What the recall daemon knows by entries of a history was told after the access was parked. So a fault of the object of a segment that it needs is caused.
use Rattle.std.proofs.Common.{◌≡◌, ℕ, Bool, true, false, not, ◌==◌, List, [], ◌∷◌, ◌++◌, Option, None, Some, refl, sym, ◌∙◌, ap, subst, append_assoc}
use Rattle.std.proofs.lemmas.List.Elements.{All-nil, All-head, All-tail, All-weaker, All-filter, All-contains, All-contains_itself}
use Rattle.std.specs.Prelude.{◌^◌, IfSome, if◌then◌else◌, nat_lt, Contains}
use Rattle.std.specs.List.{All, filter_map, enumerate_from}
use Rattle.std.specs.Option.{option_map}
use Rattle.hsm_types.specs.Sessions.{no_sessions}
use Rattle.hsm_types.specs.declared.daemons.Daemon.TheVariants.{Recall}
use Rattle.hsm_types.specs.declared.dm.DmCall.{DmCall}
use Rattle.hsm_types.specs.declared.dm.DmCall.TheVariants as call
use Rattle.hsm_types.specs.declared.dm.DmRefusal.{DmRefusal}
use Rattle.hsm_types.specs.declared.dm.DmReply.{DmReply}
use Rattle.hsm_types.specs.declared.dm.DmReply.TheVariants as reply
use Rattle.hsm_types.specs.declared.dm.Response.TheVariants.{Media}
use Rattle.hsm_types.specs.declared.dm.Right.{Right}
use Rattle.hsm_types.specs.declared.keys.Handle.{Handle}
use Rattle.hsm_types.specs.declared.keys.Sid.{Sid}
use Rattle.hsm_types.specs.declared.keys.Token.{Token}
use Rattle.hsm_types.specs.declared.media.Fault.{Fault}
use Rattle.hsm_types.specs.declared.stores.Superblock.{Superblock}
use Rattle.hsm_types.specs.declared.stubs.Segment.{Segment}
use Rattle.hsm_types.specs.declared.stubs.Segment.TheVariants.{Resident, Sealed, Offline}
use Rattle.plain_model.specs.declared.entries.Action.{Action}
use Rattle.plain_model.specs.declared.entries.Action.TheVariants.{Dm}
use Rattle.plain_model.specs.declared.entries.Actor.{Actor}
use Rattle.plain_model.specs.declared.entries.Actor.TheVariants.{Session}
use Rattle.plain_model.specs.declared.entries.Answer.{Answer}
use Rattle.plain_model.specs.declared.entries.Answer.TheVariants.{Dm as Told}
use Rattle.plain_model.specs.declared.entries.Entry.{Entry}
use Rattle.plain_model.specs.State.{State}
use Rattle.plain_model.specs.Exact.{ExactSeen, state_by}
use Rattle.event_msgs.specs.Reading.{told}
use Rattle.daemon_session.specs.declared.events.Event.{Event}
use Rattle.daemon_session.specs.declared.events.Kept.{Kept}
use Rattle.recall_daemon.specs.Known.{Known, Hand, nothing_known, taken, handling, asks, back_in, failed, unrestored, unanswered, hears}
use Rattle.recall_daemon.specs.Known.{away_at, away_in, Holds, IsNeeded}
use Rattle.recall_daemon.specs.declared.away.Away.{Away}
use Rattle.migrate_daemon.specs.Machine.{answer_of}
use Rattle.hsm_core.specs.Answers.{entry_of}
use Rattle.hsm_core.specs.Packed.{HandsBy}
use Rattle.recall_daemon.proofs.Outcomes.{Ends, failed_so, unrestored_so, unanswered_so}
use Rattle.marked_history.specs.Served.{IsOf, IsTold}
use Rattle.marked_history.specs.Caused.{WasParked, IsCausedBy}
use Rattle.marked_history.proofs.Handing.{IsOfParked, parked_more, each_parked}
use Rattle.marked_history.proofs.Remembering.{stays, cons_each, TellsOnly, recall_kept, tells_each}

-- ---- segments that are away

away_one : (whole : List Segment) (n : ℕ) (x : Segment) → Contains whole x → IfSome (away_at (n, x)) (λ (a : Away). Contains whole (Offline a.entry))
away_one whole n (Resident blocks) is = tt
away_one whole n (Sealed blocks entry) is = tt
away_one whole n (Offline entry) is = elim (nat_lt n (2 ^ 32)) as (λ (b : Bool). IfSome (if b then Some (record { segment = n; entry = entry }) else None) (λ (a : Away). Contains whole (Offline a.entry))) [ true ↦ is | false ↦ tt ]

away_each : (whole l : List Segment) (n : ℕ) → All (Contains whole) l → All (λ (a : Away). Contains whole (Offline a.entry)) (filter_map away_at (enumerate_from n l))
away_each whole [] n each = All-nil (λ (a : Away). Contains whole (Offline a.entry))
away_each whole (x ∷ l) n each = cons_each (λ (a : Away). Contains whole (Offline a.entry)) (away_at (n, x)) _ (away_one whole n x (All-head (Contains whole) x l each)) (away_each whole l _ (All-tail (Contains whole) x l each))

-- each of them stands in the answer
away_told : (segments : List Segment) → All (λ (a : Away). Contains segments (Offline a.entry)) (away_in segments)
away_told segments = away_each segments segments 0 (All-contains_itself segments)

-- ---- its calls

-- what those rest on of which more is known than that they were made
abbrev pub RestsOn : Known → Sid → DmCall → Type 0
RestsOn k sid (call.RequestRight t h right) = IsTold k.seat.kept t h
RestsOn k sid (call.GetAllocInfo t h) = (k.seat.sid ≡ Some sid) × ((hand : Hand) × Holds k t h hand)
RestsOn k sid c = Unit {0}

-- migration's answers name no fault
pub no_fault : (punched : Bool) (fault : Fault) → Media fault ≡ answer_of punched → ⊥
no_fault true fault is = cc
no_fault false fault is = cc

module _ (s : Superblock) (st : State) where
  -- ---- what the recall daemon knows

  -- the session was told that the segment is away, after the access was parked on the token
  pub record WasTold (es : List Entry) (sid : Sid) (t : Token) (h : Handle) (a : Away) : Type 0 where
    pub before : List Entry
    pub token : Token
    pub segments : List Segment
    pub rest : List Entry
    pub parted : es ≡ before ++ entry_of (Session sid) (Dm (call.GetAllocInfo token h)) (Told (reply.Alloc segments)) ∷ rest
    pub parked : WasParked s st before t h
    pub away : Contains segments (Offline a.entry)

  -- the event is that of an access that was parked
  abbrev pub EventOf : List Entry → Event → Type 0
  EventOf es e = WasParked s st es e.token e.handle

  abbrev IsKeptOf : List Entry → Kept → Type 0
  IsKeptOf es k = EventOf es k.event

  abbrev AreTold : List Entry → Sid → Token → Handle → Option (List Away) → Type 0
  AreTold es sid t h None = Unit {0}
  AreTold es sid t h (Some away) = All (WasTold es sid t h) away

  -- so is the event in hand, and its segments that are away were told to the session
  pub record IsHandOf (es : List Entry) (sid : Option Sid) (hand : Hand) : Type 0 where
    pub parked : WasParked s st es hand.token hand.handle
    pub told : (x : Sid) → sid ≡ Some x → AreTold es x hand.token hand.handle hand.away

  pub record IsKnownBy (es : List Entry) (k : Known) : Type 0 where
    pub kept : All (IsKeptOf es) k.seat.kept
    pub hand : IfSome k.hand (IsHandOf es k.seat.sid)

  pub nothing_by : (es : List Entry) → IsKnownBy es nothing_known
  nothing_by es = record { kept = All-nil (IsKeptOf es); hand = tt }

  -- ---- an entry more

  told_more : (es more : List Entry) (sid : Sid) (t : Token) (h : Handle) (a : Away) → WasTold es sid t h a → WasTold (es ++ more) sid t h a
  told_more es more sid t h a was = record {
    before = was.before;
    token = was.token;
    segments = was.segments;
    rest = was.rest ++ more;
    parted = ap (λ (l : List Entry). l ++ more) was.parted ∙ append_assoc was.before _ more;
    parked = was.parked;
    away = was.away;
  }

  all_told_more : (es more : List Entry) (sid : Sid) (t : Token) (h : Handle) (away : Option (List Away)) → AreTold es sid t h away → AreTold (es ++ more) sid t h away
  all_told_more es more sid t h None are = tt
  all_told_more es more sid t h (Some away) are = All-weaker (WasTold es sid t h) (WasTold (es ++ more) sid t h) (told_more es more sid t h) away are

  hand_more : (es more : List Entry) (sid : Option Sid) (found : Option Hand) → IfSome found (IsHandOf es sid) → IfSome found (IsHandOf (es ++ more) sid)
  hand_more es more sid None is = tt
  hand_more es more sid (Some hand) is = record {
    parked = parked_more s st es more hand.token hand.handle is.parked;
    told = λ x same. all_told_more es more x hand.token hand.handle hand.away (is.told x same);
  }

  kept_more : (es more : List Entry) (kept : List Kept) → All (IsKeptOf es) kept → All (IsKeptOf (es ++ more)) kept
  kept_more es more kept each = All-weaker (IsKeptOf es) (IsKeptOf (es ++ more)) (λ x. parked_more s st es more x.event.token x.event.handle) kept each

  pub known_more : (es more : List Entry) (k : Known) → IsKnownBy es k → IsKnownBy (es ++ more) k
  known_more es more k is = record { kept = kept_more es more k.seat.kept is.kept; hand = hand_more es more k.seat.sid k.hand is.hand }

  -- ---- what is heard of the event in hand

  abbrev pub HandOf : List Entry → Known → Type 0
  HandOf es k = IfSome k.hand (IsHandOf es k.seat.sid)

  module _ (es : List Entry) (k : Known) (is : HandOf es k) where
    handled : (f : Hand → Hand) (found : Option Hand) → ((hand : Hand) → IsHandOf es k.seat.sid hand → IsHandOf es k.seat.sid (f hand)) → IfSome found (IsHandOf es k.seat.sid) → IfSome (option_map f found) (IsHandOf es k.seat.sid)
    handled f None keeps h = tt
    handled f (Some hand) keeps h = keeps hand h

    handling_by : (f : Hand → Hand) → ((hand : Hand) → IsHandOf es k.seat.sid hand → IsHandOf es k.seat.sid (f hand)) → HandOf es (handling f k)
    handling_by f keeps = handled f k.hand keeps is

    abbrev After : (Known → Known) → Type 0
    After f = HandOf es (f k)

    gone_by : HandOf es (handling (λ (hand : Hand). record hand { gone = true }) k)
    gone_by = handling_by (λ hand. record hand { gone = true }) (λ hand h. record { parked = h.parked; told = h.told })

    ends_by : (t : Token) (answer : DmReply) → Ends After t answer
    ends_by t answer = record { stays = λ lost. is; off = tt; drops = λ gone. tt }

    failed_by : (t : Token) (answer : DmReply) → HandOf es (failed t answer k)
    failed_by t answer = failed_so After t answer gone_by (ends_by t answer)

    unrestored_by : (t : Token) (w : DmRefusal) → HandOf es (unrestored t w k)
    unrestored_by t w = unrestored_so After t w gone_by (handling_by (λ hand. record hand { short = true }) (λ hand h. record { parked = h.parked; told = h.told })) (ends_by t (reply.Refused w))

    unanswered_by : (t : Token) (w : DmRefusal) → HandOf es (unanswered t w k)
    unanswered_by t w = unanswered_so After t w (ends_by t (reply.Refused w))

    back_told : (sid : Sid) (t : Token) (h : Handle) (j : ℕ) (away : Option (List Away)) → AreTold es sid t h away → AreTold es sid t h (back_in j away)
    back_told sid t h j None are = tt
    back_told sid t h j (Some away) are = All-filter (λ (a : Away). not (a.segment == j)) (WasTold es sid t h) away are

    restored_by : (j : ℕ) → HandOf es (handling (λ (hand : Hand). record hand { away = back_in j hand.away }) k)
    restored_by j = handling_by (λ hand. record hand { away = back_in j hand.away }) (λ hand h. record { parked = h.parked; told = λ x same. back_told x hand.token hand.handle j hand.away (h.told x same) })

    sized_by : (size : ℕ) → HandOf es (handling (λ (hand : Hand). record hand { size = Some size }) k)
    sized_by size = handling_by (λ hand. record hand { size = Some size }) (λ hand h. record { parked = h.parked; told = h.told })

  -- ---- its calls

  -- the event that it asks a right for was kept
  pub asked_parked : (es : List Entry) (kept : List Kept) (t : Token) (h : Handle) → All (IsKeptOf es) kept → IsTold kept t h → WasParked s st es t h
  asked_parked es kept t h each is =
      let own : WasParked s st es is.0.token is.0.handle = All-contains (IsKeptOf es) kept (record { event = is.0; marked = is.1.0 }) each is.1.1 in
      subst (λ (x : Handle). WasParked s st es t x) is.3 (subst (λ (x : Token). WasParked s st es x is.0.handle) is.2 own)

  module _ (before : List Entry) (sid : Sid) where
    abbrev after : DmCall → DmReply → List Entry
    after c answer = before ++ entry_of (Session sid) (Dm c) (Told answer) ∷ []

    -- the segments that it was told
    listed_hand : (t : Token) (h : Handle) (segments : List Segment) (seat : Option Sid) (hand : Hand) → seat ≡ Some sid → hand.handle ≡ h → IsHandOf before seat hand
        → IsHandOf (after (call.GetAllocInfo t h) (reply.Alloc segments)) seat (record hand { away = Some (away_in segments) })
    listed_hand t h segments seat hand own same is = record {
      parked = parked_more s st before _ hand.token hand.handle is.parked;
      told = λ x other.
          let one : sid ≡ x = cc in
          All-weaker (λ (a : Away). Contains segments (Offline a.entry)) (WasTold (after (call.GetAllocInfo t h) (reply.Alloc segments)) x hand.token hand.handle) (λ a away. record {
            before = before;
            token = t;
            segments = segments;
            rest = [];
            parted = ap (λ (y : Sid). before ++ entry_of (Session y) (Dm (call.GetAllocInfo t h)) (Told (reply.Alloc segments)) ∷ []) one
                ∙ ap (λ (y : Handle). before ++ entry_of (Session x) (Dm (call.GetAllocInfo t y)) (Told (reply.Alloc segments)) ∷ []) (sym same);
            parked = is.parked;
            away = away;
          }) (away_in segments) (away_told segments);
    }

    listed : (t : Token) (h : Handle) (segments : List Segment) (seat : Option Sid) (found : Option Hand) (hand : Hand) → seat ≡ Some sid → found ≡ Some hand → hand.handle ≡ h → IfSome found (IsHandOf before seat)
        → IfSome (option_map (λ (x : Hand). record x { away = Some (away_in segments) }) found) (IsHandOf (after (call.GetAllocInfo t h) (reply.Alloc segments)) seat)
    listed t h segments seat None hand own held same is = tt
    listed t h segments seat (Some x) hand own held same is = let one : x ≡ hand = cc in listed_hand t h segments seat x own (ap (λ (y : Hand). y.handle) one ∙ same) is

    module _ (k : Known) (is : IsKnownBy before k) where
      taken_by : (t : Token) (h : Handle) (right : Right) (answer : DmReply) → IsTold k.seat.kept t h → HandOf (after (call.RequestRight t h right) answer) (record { seat = k.seat; hand = Some (taken t h) })
      taken_by t h right answer told = record { parked = parked_more s st before _ t h (asked_parked before k.seat.kept t h is.kept told); told = λ x same. tt }

      on : (c : DmCall) (answer : DmReply) → HandOf (after c answer) k
      on c answer = hand_more before (entry_of (Session sid) (Dm c) (Told answer) ∷ []) k.seat.sid k.hand is.hand

      hand_by : (c : DmCall) (answer : DmReply) → RestsOn k sid c → HandOf (after c answer) (hears (asks k c) c answer)
      hand_by call.GetAllSessions answer may = tt
      hand_by (call.CreateSession old info) answer may = tt
      hand_by (call.RequestRight t h right) reply.Done may = taken_by t h right reply.Done may
      hand_by (call.RequestRight t h right) answer may = failed_by (after (call.RequestRight t h right) answer) (record { seat = k.seat; hand = Some (taken t h) }) (taken_by t h right answer may) t answer
      hand_by (call.GetFileAttr t h) (reply.Attr size stamp blocks) may = sized_by (after (call.GetFileAttr t h) (reply.Attr size stamp blocks)) k (on (call.GetFileAttr t h) (reply.Attr size stamp blocks)) size
      hand_by (call.GetFileAttr t h) answer may = failed_by (after (call.GetFileAttr t h) answer) k (on (call.GetFileAttr t h) answer) t answer
      hand_by (call.GetAllocInfo t h) (reply.Alloc segments) may = listed t h segments k.seat.sid k.hand may.1.0 may.0 may.1.1.0 may.1.1.2 is.hand
      hand_by (call.GetAllocInfo t h) answer may = failed_by (after (call.GetAllocInfo t h) answer) k (on (call.GetAllocInfo t h) answer) t answer
      hand_by (call.Restore t h j bytes) reply.Done may = restored_by (after (call.Restore t h j bytes) reply.Done) k (on (call.Restore t h j bytes) reply.Done) j
      hand_by (call.Restore t h j bytes) (reply.Refused w) may = unrestored_by (after (call.Restore t h j bytes) (reply.Refused w)) k (on (call.Restore t h j bytes) (reply.Refused w)) t w
      hand_by (call.Restore t h j bytes) answer may = tt
      hand_by (call.Respond t response) reply.Done may = tt
      hand_by (call.Respond t response) (reply.Refused w) may = unanswered_by (after (call.Respond t response) (reply.Refused w)) (record { seat = k.seat; hand = None }) tt t w
      hand_by (call.Respond t response) answer may = tt
      hand_by c answer may = subst (λ (x : Option Sid). IfSome k.hand (IsHandOf (after c answer) x)) (sym (stays Recall k.seat c answer refl)) (on c answer)

      pub call_by : (c : DmCall) (answer : DmReply) → TellsOnly (EventOf before) Recall c answer → RestsOn k sid c → IsKnownBy (after c answer) (hears (asks k c) c answer)
      call_by c answer tells may = record { kept = kept_more before _ _ (recall_kept (EventOf before) k c answer is.kept tells); hand = hand_by c answer may }

  -- ---- any entry

  -- what the store gives
  abbrev pub GivenBy : List Entry → Actor → Action → Answer → Type 0
  GivenBy before (Session sid) (Dm c) (Told answer) = TellsOnly (EventOf before) Recall c answer
  GivenBy before who what answer = Unit {0}

  -- ---- causes

  -- a fault of the object of a needed segment
  pub cause_of : (es : List Entry) (k : Known) (sid : Sid) (t : Token) (fault : Fault) (hand : Hand) (a : Away) → IsKnownBy es k → k.seat.sid ≡ Some sid → k.hand ≡ Some hand → hand.token ≡ t → IsNeeded k.seat.kept hand a → IsOf a.entry fault → IsCausedBy s st es sid t fault
  cause_of es k sid t fault hand a is session held same needed names =
      let known : IsHandOf es k.seat.sid hand = subst (λ (x : Option Hand). IfSome x (IsHandOf es k.seat.sid)) held is.hand in
      let told_all : AreTold es sid hand.token hand.handle (Some needed.away) = subst (AreTold es sid hand.token hand.handle) needed.told (known.told sid session) in
      let own : WasTold es sid hand.token hand.handle a = All-contains (WasTold es sid hand.token hand.handle) needed.away a told_all needed.needs.0 in
      record {
        before = own.before;
        token = own.token;
        handle = hand.handle;
        segments = own.segments;
        rest = own.rest;
        entry = a.entry;
        parted = own.parted;
        parked = subst (λ (x : Token). WasParked s st own.before x hand.handle) same own.parked;
        away = own.away;
        names = names;
      }

  -- ---- whole histories

  module _ (es : List Entry) (none : st.sessions ≡ no_sessions) (exact : ExactSeen ⊥ s st es) where
    pub given_by : (before : List Entry) (who : Actor) (what : Action) (answer : Answer) (rest : List Entry) → es ≡ before ++ entry_of who what answer ∷ rest → HandsBy (state_by s st before) who what answer → GivenBy before who what answer
    given_by before (Session sid) (Dm c) (Told answer) rest is hands =
        tells_each (EventOf before) Recall (IsOfParked s st before) (λ m h of own has. subst (λ (found : Option Handle). IfSome found (λ x. WasParked s st before m.token x)) has of) (state_by s st before).sessions sid c answer
        (each_parked s st es none exact before (entry_of (Session sid) (Dm c) (Told answer)) rest is) hands
    given_by before who what answer rest is hands = tt
