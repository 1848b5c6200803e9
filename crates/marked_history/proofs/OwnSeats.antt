-- What is outstanding to a daemon's session stays accounted for through each entry.
use Rattle.std.proofs.Common.{◌≡◌, ℕ, ◌<◌, ◌≤◌, Bool, true, false, List, [], ◌∷◌, ◌++◌, drop, Option, None, Some, inl, refl, sym, ap, subst, ◌∙◌}
use Rattle.std.proofs.lemmas.Bool.{false≢true, eqb-true, eqb-false, eq-eqb}
use Rattle.std.proofs.lemmas.List.Elements.{All-nil, All-head, All-weaker}
use Rattle.std.specs.Prelude.{◌==◌, if◌then◌else◌}
use Rattle.std.specs.List.{All}
use Rattle.std.specs.Option.{option_map}
use Rattle.std.specs.Str.{bytes_eq}
use Rattle.hsm_types.specs.Daemons.{information, kinds_of}
use Rattle.hsm_types.specs.Messages.{has_token, takes, handed_out, user_message}
use Rattle.hsm_types.specs.Sessions.{SessionTable, owner, dead_session, message_in, outstanding_message, outstanding_of, queue_of, tokens_of}
use Rattle.hsm_types.specs.Sessions.{none_fits, next_sid}
use Rattle.hsm_types.specs.declared.daemons.Daemon.{Daemon}
use Rattle.hsm_types.specs.declared.dm.DmCall.{DmCall}
use Rattle.hsm_types.specs.declared.dm.DmCall.TheVariants as call
use Rattle.hsm_types.specs.declared.dm.DmRefusal.{DmRefusal}
use Rattle.hsm_types.specs.declared.dm.DmRefusal.TheVariants as why
use Rattle.hsm_types.specs.declared.dm.DmReply.{DmReply}
use Rattle.hsm_types.specs.declared.dm.DmReply.TheVariants as reply
use Rattle.hsm_types.specs.declared.dm.Kinds.{Kinds}
use Rattle.hsm_types.specs.declared.dm.Response.{Response}
use Rattle.hsm_types.specs.declared.keys.Sid.{Sid}
use Rattle.hsm_types.specs.declared.keys.Token.{Token}
use Rattle.hsm_types.specs.declared.messages.Message.{Message}
use Rattle.hsm_types.specs.declared.stores.Superblock.{Superblock}
use Rattle.plain_model.specs.declared.entries.Action.{Action}
use Rattle.plain_model.specs.declared.entries.Action.TheVariants.{Dm}
use Rattle.plain_model.specs.declared.entries.Actor.{Actor}
use Rattle.plain_model.specs.declared.entries.Actor.TheVariants.{Session}
use Rattle.plain_model.specs.declared.entries.Answer.{Answer}
use Rattle.plain_model.specs.declared.entries.Answer.TheVariants.{Dm as Told}
use Rattle.plain_model.specs.Effects.{change_of}
use Rattle.plain_model.specs.State.{State, changed}
use Rattle.plain_model.specs.Services.{bad_own_token, message_or_none}
use Rattle.plain_model.specs.Stands.{InOrder}
use Rattle.plain_model.specs.Exact.{IsAnswer, left_by}
use Rattle.plain_model.proofs.Judged.{none_first}
use Rattle.plain_model.proofs.Orders.{owned_open}
use Rattle.event_msgs.specs.Buffers.{IsPacked}
use Rattle.dm_service.specs.Handing.{HandsOut}
use Rattle.daemon_session.specs.declared.events.Kept.{Kept}
use Rattle.daemon_session.specs.Seats.{Seat, no_seat, new_seat, told_info, found_one, forgot, seat_asks, seat_hears}
use Rattle.daemon_session.specs.Tellings.{events_in}
use Rattle.marked_history.specs.Tokens.{KeepsEvent}
use Rattle.marked_history.proofs.Carrying.{Each, outstanding_of_each}
use Rattle.marked_history.proofs.Outstanding.{zip_each, created_empty, responded_gone, once_out, owned_message, found_one as one_found}
use Rattle.marked_history.proofs.Leaving.{Hands, left_out, told_gone, IsOn, own_reply, done_left, same_left, once, told_apart}
use Rattle.marked_history.proofs.Accounting.{keeps_last, packed_tell, Finds, Accounted, AllAccounted, IsApart}
use Rattle.marked_history.proofs.Accounting.{none_accounted, all_later, grown_on, forgot_on, passed_on, found_on, listed_on}

-- a message of a daemon's kinds has a token
abbrev pub HasToken : Message → Type 0
HasToken m = (d : Daemon) → takes (kinds_of d) m.kind ≡ true → 0 < m.token.0

pub user_has : (t : Token) (body : List ℕ) → HasToken (user_message t body)
user_has t body d own = absurd (false≢true own)

-- the id of its session was given
abbrev pub IsGiven : SessionTable → Seat → Type 0
IsGiven t seat = (sid : Sid) → seat.sid ≡ Some sid → sid.0 ≤ t.given

-- the answer hands out messages of the session's queue
abbrev hands_in : Action → Answer → Bool
hands_in (Dm (call.GetEvents most room)) (Told (reply.Packed bytes tokens)) = true
hands_in what answer = false

-- on the calls on which it rests, what a seat knows of the session that makes them
abbrev pub SeatMay : Seat → Sid → DmCall → Type 0
SeatMay seat x call.GetAllTokens = seat.sid ≡ Some x
SeatMay seat x (call.FindEventMsg t room) = (seat.sid ≡ Some x) × ((rest : List Token) × (seat.unfound ≡ Some (t ∷ rest)))
SeatMay seat x (call.GetEvents most room) = seat.sid ≡ Some x
SeatMay seat x (call.Respond t response) = seat.sid ≡ Some x
SeatMay seat x c = Unit {0}

module _ (s : Superblock) (st : State) (ordered : InOrder st) (d : Daemon) where
  own_fits : (Taken : Token → Type 0) (kept : List Kept) (unfound : List Token) (t : Token) (body : List ℕ) → Accounted d Taken kept unfound (user_message t body)
  own_fits Taken kept unfound t body own = absurd (false≢true own)

  -- an entry more that leaves the seat
  pub tables_on : (Taken : Token → Type 0) (seat : Seat) (who : Actor) (what : Action) (answer : Answer) → IsAnswer s st who what answer → IsGiven st.sessions seat
      → ((sid : Sid) (unfound : List Token) → seat.sid ≡ Some sid → seat.unfound ≡ Some unfound → Hands (Accounted d Taken seat.kept unfound) st sid who what answer)
      → AllAccounted d Taken st.sessions seat → AllAccounted d Taken (left_by s st who what answer).sessions seat
  tables_on Taken seat who what answer is given hands each sid unfound own left =
      left_out s st ordered (Accounted d Taken seat.kept unfound) (own_fits Taken seat.kept unfound) sid (given sid own) (each sid unfound own left) who what answer is (hands sid unfound own left)

  -- of what was taken before a call, and what is behind it
  module _ (tokened : Each HasToken st.sessions) (Taken Later : Token → Type 0) (x : Sid) where
    abbrev after : DmCall → DmReply → SessionTable
    after c a = (left_by s st (Session x) (Dm c) (Told a)).sessions

    abbrev Stays : DmCall → DmReply → Type 0
    Stays c a = (u : Token) → (Finds c a u → ⊥) → Taken u → Later u

    no_hands : (P : Message → Type 0) (sid : Sid) (c : DmCall) (a : DmReply) → hands_in (Dm c) (Told a) ≡ false → Hands P st sid (Session x) (Dm c) (Told a)
    no_hands P sid c a none most room bytes tokens who what answer is = let same : hands_in (Dm c) (Told a) ≡ true = λ i. hands_in (what i) (answer i) in absurd (false≢true (sym none ∙ same))

    -- one of a call that finds and hands out nothing
    pub plain : (seat : Seat) (c : DmCall) (a : DmReply) → Stays c a → ((u : Token) → Finds c a u → ⊥) → hands_in (Dm c) (Told a) ≡ false → IsAnswer s st (Session x) (Dm c) (Told a) → IsGiven st.sessions seat
        → AllAccounted d Taken st.sessions seat → AllAccounted d Later (after c a) seat
    plain seat c a stays finds hands is given each =
        tables_on Later seat (Session x) (Dm c) (Told a) is given (λ sid unfound own left. no_hands (Accounted d Later seat.kept unfound) sid c a hands)
        (all_later d st.sessions Taken Later seat (λ u was. stays u (finds u) was) each)

    -- where the answer tells it, the token isn't outstanding to the session
    gone_out : (c : DmCall) (a : DmReply) (u : Token) → IsOn u c → IsAnswer s st (Session x) (Dm c) (Told a) → told_gone a ≡ true → All (IsApart d u) (outstanding_of x st.sessions)
    gone_out c a u on is gone =
        zip_each HasToken (λ (m : Message). 0 < m.token.0 → m.token.0 ≡ u.0 → ⊥) (IsApart d u) (λ m has apart own. apart (has d own)) (outstanding_of x st.sessions) (outstanding_of_each HasToken x st.sessions tokened)
        (told_apart s st x ordered c a u on is gone)

    -- nor is it after a call that changes no session
    pub gone_after : (c : DmCall) (a : DmReply) (u : Token) → IsOn u c → (changed (change_of x c) st).sessions ≡ st.sessions → IsAnswer s st (Session x) (Dm c) (Told a) → told_gone a ≡ true → All (IsApart d u) (outstanding_of x (after c a))
    gone_after c a u on same is gone = subst (λ (t : SessionTable). All (IsApart d u) (outstanding_of x t)) (sym (same_left s st x c a same)) (gone_out c a u on is gone)

    -- ---- its way to a session

    created : (old : Sid) (info : List ℕ) (new : Sid) → IsAnswer s st (Session x) (Dm (call.CreateSession old info)) (Told (reply.Session new))
        → AllAccounted d Later (after (call.CreateSession old info) (reply.Session new)) (new_seat old new)
    created old info new is sid unfound own left = by (old.0 == 0) refl left
      where
        given : reply.Session new ≡ reply.Session (next_sid st.sessions)
        given = (own_reply s st x (call.CreateSession old info) (reply.Session new) is refl).1

        which : next_sid st.sessions ≡ sid
        which = let one : new ≡ next_sid st.sessions = cc given in let other : new ≡ sid = cc in sym one ∙ other

        by : (b : Bool) → (old.0 == 0) ≡ b → (if b then Some [] else None) ≡ Some unfound
            → All (Accounted d Later [] unfound) (outstanding_of sid (after (call.CreateSession old info) (reply.Session new)))
        by true zero_id same =
            let none : outstanding_of (next_sid st.sessions) (after (call.CreateSession old info) (reply.Session new)) ≡ [] =
            ap (outstanding_of (next_sid st.sessions)) (done_left s st x (call.CreateSession old info) (reply.Session new) refl) ∙ created_empty old info st.sessions ordered.ascend (eqb-true old.0 0 zero_id) in
            subst (λ (y : Sid). All (Accounted d Later [] unfound) (outstanding_of y (after (call.CreateSession old info) (reply.Session new)))) which
            (subst (λ (l : List Message). All (Accounted d Later [] unfound) l) (sym none) (All-nil (Accounted d Later [] unfound)))
        by false other same = absurd cc

    creates : (old : Sid) (info : List ℕ) (a : DmReply) → IsAnswer s st (Session x) (Dm (call.CreateSession old info)) (Told a)
        → AllAccounted d Later (after (call.CreateSession old info) a) (seat_hears d no_seat (call.CreateSession old info) a)
    creates old info (reply.Session new) is = created old info new is
    creates old info a is = none_accounted d (after (call.CreateSession old info) a) Later no_seat refl

    begins : (a : DmReply) → AllAccounted d Later (after call.GetAllSessions a) (seat_hears d no_seat call.GetAllSessions a)
    begins (reply.Sids ids) = none_accounted d (after call.GetAllSessions (reply.Sids ids)) Later (record no_seat { others = Some ids }) refl
    begins a = none_accounted d (after call.GetAllSessions a) Later no_seat refl

    module _ (seat : Seat) (given : IsGiven st.sessions seat) (each : AllAccounted d Taken st.sessions seat) where
      informed : (t : SessionTable) (target : Sid) (info : List ℕ) → AllAccounted d Later t seat → AllAccounted d Later t (told_info d target info seat)
      informed t target info is = elim (bytes_eq info (information d)) as (λ (b : Bool). AllAccounted d Later t (if b then record seat { found = Some target } else record seat { others = option_map (λ (ids : List Sid). drop 1 ids) seat.others })) [ true ↦ is | false ↦ is ]

      queries : (target : Sid) (a : DmReply) → Stays (call.QuerySession target) a → IsAnswer s st (Session x) (Dm (call.QuerySession target)) (Told a) → AllAccounted d Later (after (call.QuerySession target) a) (seat_hears d seat (call.QuerySession target) a)
      queries target (reply.Info info) stays is =
          informed (after (call.QuerySession target) (reply.Info info)) target info (plain seat (call.QuerySession target) (reply.Info info) stays (λ u found. found) refl is given each)
      queries target a stays is = plain seat (call.QuerySession target) a stays (λ u found. found) refl is given each

      disposes : (kinds : Kinds) (a : DmReply) → Stays (call.SetDisp kinds) a → IsAnswer s st (Session x) (Dm (call.SetDisp kinds)) (Told a) → AllAccounted d Later (after (call.SetDisp kinds) a) (seat_hears d seat (call.SetDisp kinds) a)
      disposes kinds reply.Done stays is = plain seat (call.SetDisp kinds) reply.Done stays (λ u found. found) refl is given each
      disposes kinds a stays is = plain seat (call.SetDisp kinds) a stays (λ u found. found) refl is given each

      lists : (a : DmReply) → seat.sid ≡ Some x → Stays call.GetAllTokens a → IsAnswer s st (Session x) (Dm call.GetAllTokens) (Told a) → AllAccounted d Later (after call.GetAllTokens a) (seat_hears d seat call.GetAllTokens a)
      lists (reply.Tokens tokens) at stays is =
          let same : reply.Tokens tokens ≡ reply.Tokens (tokens_of (outstanding_of x st.sessions)) = (own_reply s st x call.GetAllTokens (reply.Tokens tokens) is refl).1 in
          let these : tokens ≡ tokens_of (outstanding_of x st.sessions) = cc same in
          subst (λ (t : SessionTable). AllAccounted d Later t (record seat { unfound = Some tokens })) (sym (same_left s st x call.GetAllTokens (reply.Tokens tokens) refl))
          (listed_on d st.sessions Later seat x tokens at these)
      lists a at stays is = plain seat call.GetAllTokens a stays (λ u found. found) refl is given each

      -- ---- messages that are found again

      module _ (u : Token) (room : ℕ) (at : seat.sid ≡ Some x) (rest : List Token) (left : seat.unfound ≡ Some (u ∷ rest)) where
        abbrev find : DmCall
        find = call.FindEventMsg u room

        -- each message with the token is the one that is told
        tells : (bytes : List ℕ) (tokens : List Token) → IsAnswer s st (Session x) (Dm find) (Told (reply.Packed bytes tokens)) → IsPacked bytes (message_or_none (outstanding_message u st.sessions))
            → All (λ y. takes (kinds_of d) y.kind ≡ true → y.token.0 ≡ u.0 → KeepsEvent (events_in d bytes) y.token) (outstanding_of x st.sessions)
        tells bytes tokens is packed =
            let judged = (own_reply s st x find (reply.Packed bytes tokens) is refl).0 in
            let fits : List (Option DmRefusal) = none_fits room (message_or_none (outstanding_message u st.sessions)) ∷ [] in
            let past = none_first (dead_session x st.sessions) (bad_own_token x u st.sessions ∷ fits) judged in
            let mine = owned_open st x u ordered (none_first (bad_own_token x u st.sessions) fits past.1).0 in
            let found = one_found (has_token u) (outstanding_of x st.sessions) (once_out st.sessions (once s st x ordered) x u mine.1) in
            All-weaker (λ y. has_token u y ≡ true → message_in u (outstanding_of x st.sessions) ≡ Some y) (λ y. takes (kinds_of d) y.kind ≡ true → y.token.0 ≡ u.0 → KeepsEvent (events_in d bytes) y.token)
            (λ y one own same. told_one bytes y packed (owned_message u x st.sessions ordered.ascend mine.2 ∙ one (eq-eqb y.token.0 u.0 same)) own) (outstanding_of x st.sessions) found
          where
            told_one : (bytes : List ℕ) (y : Message) → IsPacked bytes (message_or_none (outstanding_message u st.sessions)) → outstanding_message u st.sessions ≡ Some y → takes (kinds_of d) y.kind ≡ true → KeepsEvent (events_in d bytes) y.token
            told_one bytes y packed is own =
                let alone : IsPacked bytes (y ∷ []) = subst (λ (o : Option Message). IsPacked bytes (message_or_none o)) is packed in
                All-head (λ m. takes (kinds_of d) m.kind ≡ true → KeepsEvent (events_in d bytes) m.token) y [] (packed_tell d bytes (y ∷ []) alone) own

        found_again : (bytes : List ℕ) (tokens : List Token) → Stays find (reply.Packed bytes tokens) → IsAnswer s st (Session x) (Dm find) (Told (reply.Packed bytes tokens)) → IsPacked bytes (message_or_none (outstanding_message u st.sessions))
            → AllAccounted d Later (after find (reply.Packed bytes tokens)) (record (found_one seat) { kept = seat.kept ++ events_in d bytes })
        found_again bytes tokens stays is packed =
            subst (λ (t : SessionTable). AllAccounted d Later t (record (found_one seat) { kept = seat.kept ++ events_in d bytes })) (sym (same_left s st x find (reply.Packed bytes tokens) refl))
            (found_on d st.sessions Taken seat each Later x u rest (events_in d bytes) at left stays (tells bytes tokens is packed))

        missed : (a : DmReply) → Stays find a → ((w : Token) → Finds find a w → ⊥) → told_gone a ≡ true → IsAnswer s st (Session x) (Dm find) (Told a) → AllAccounted d Later (after find a) (found_one seat)
        missed a stays finds gone is =
            plain (found_one seat) find a stays finds refl is given
            (passed_on d st.sessions Taken seat each x u rest at left (gone_out find a u refl is gone))

        finds : (a : DmReply) → Stays find a → HandsOut st.sessions x find a → IsAnswer s st (Session x) (Dm find) (Told a) → AllAccounted d Later (after find a) (seat_hears d seat find a)
        finds (reply.Packed bytes tokens) stays hands is = found_again bytes tokens stays is hands
        finds (reply.Refused why.NoToken) stays hands is = missed (reply.Refused why.NoToken) stays (λ w found. found) refl is
        finds (reply.Refused (why.NotYours owner)) stays hands is = missed (reply.Refused (why.NotYours owner)) stays (λ w found. found) refl is
        finds a stays hands is = plain seat find a stays (λ w found. found) refl is given each

      -- ---- messages that are handed out

      module _ (most room : ℕ) where
        abbrev get : DmCall
        get = call.GetEvents most room

        handed : (bytes : List ℕ) (tokens : List Token) → IsPacked bytes (handed_out most room (queue_of x st.sessions)) → (sid : Sid) (unfound : List Token)
            → Hands (Accounted d Later (seat.kept ++ events_in d bytes) unfound) st sid (Session x) (Dm get) (Told (reply.Packed bytes tokens))
        handed bytes tokens packed sid unfound most2 room2 bytes2 tokens2 who what answer is =
            let same_most : most ≡ most2 = cc what in
            let same_room : room ≡ room2 = cc what in
            let same_sid : x ≡ sid = cc who in
            subst (λ (y : Sid). All (Accounted d Later (seat.kept ++ events_in d bytes) unfound) (handed_out most2 room2 (queue_of y st.sessions))) same_sid
            (subst (λ (n : ℕ). All (Accounted d Later (seat.kept ++ events_in d bytes) unfound) (handed_out n room2 (queue_of x st.sessions))) same_most
            (subst (λ (n : ℕ). All (Accounted d Later (seat.kept ++ events_in d bytes) unfound) (handed_out most n (queue_of x st.sessions))) same_room
            (All-weaker (λ m. takes (kinds_of d) m.kind ≡ true → KeepsEvent (events_in d bytes) m.token) (Accounted d Later (seat.kept ++ events_in d bytes) unfound) (λ m has own. inl (keeps_last seat.kept (events_in d bytes) m.token (has own)))
            (handed_out most room (queue_of x st.sessions)) (packed_tell d bytes (handed_out most room (queue_of x st.sessions)) packed))))

        gets : (a : DmReply) → Stays get a → HandsOut st.sessions x get a → IsAnswer s st (Session x) (Dm get) (Told a) → AllAccounted d Later (after get a) (seat_hears d seat get a)
        gets (reply.Packed bytes tokens) stays hands is =
            let grown : Seat = record seat { kept = seat.kept ++ events_in d bytes } in
            tables_on Later grown (Session x) (Dm get) (Told (reply.Packed bytes tokens)) is given
            (λ sid unfound own left. handed bytes tokens hands sid unfound)
            (all_later d st.sessions Taken Later grown (λ u was. stays u (λ found. found) was) (grown_on d st.sessions Taken seat each (events_in d bytes)))
        gets a stays hands is = plain seat get a stays (λ u found. found) refl is given each

      -- ---- responses

      module _ (u : Token) (response : Response) (at : seat.sid ≡ Some x) where
        abbrev answer : DmCall
        answer = call.Respond u response

        answered : Stays answer reply.Done → IsAnswer s st (Session x) (Dm answer) (Told reply.Done) → AllAccounted d Later (after answer reply.Done) (record seat { kept = forgot u seat.kept })
        answered stays is =
            let none : All (λ (m : Message). has_token u m ≡ false) (outstanding_of x (after answer reply.Done)) =
            subst (λ (t : SessionTable). All (λ (m : Message). has_token u m ≡ false) (outstanding_of x t)) (sym (done_left s st x answer reply.Done refl)) (responded_gone x u st.sessions) in
            forgot_on d (after answer reply.Done) Later seat (plain seat answer reply.Done stays (λ w found. found) refl is given each) x u at
            (All-weaker (λ m. has_token u m ≡ false) (IsApart d u) (λ m apart own. eqb-false m.token.0 u.0 apart) (outstanding_of x (after answer reply.Done)) none)

        unanswered : (a : DmReply) → Stays answer a → told_gone a ≡ true → IsAnswer s st (Session x) (Dm answer) (Told a) → AllAccounted d Later (after answer a) (record seat { kept = forgot u seat.kept })
        unanswered a stays gone is =
            plain (record seat { kept = forgot u seat.kept }) answer a stays (λ w found. found) refl is given
            (forgot_on d st.sessions Taken seat each x u at (gone_out answer a u refl is gone))

        responds : (a : DmReply) → Stays answer a → IsAnswer s st (Session x) (Dm answer) (Told a) → AllAccounted d Later (after answer a) (seat_hears d seat answer a)
        responds reply.Done stays is = answered stays is
        responds (reply.Refused why.NoToken) stays is = unanswered (reply.Refused why.NoToken) stays refl is
        responds (reply.Refused (why.NotYours owner)) stays is = unanswered (reply.Refused (why.NotYours owner)) stays refl is
        responds a stays is = plain seat answer a stays (λ w found. found) refl is given each

      -- ---- any call of the daemon

      pub own_seat : (c : DmCall) (a : DmReply) → Stays c a → SeatMay seat x c → HandsOut st.sessions x c a → IsAnswer s st (Session x) (Dm c) (Told a) → AllAccounted d Later (after c a) (seat_hears d (seat_asks seat c) c a)
      own_seat call.GetAllSessions a stays may hands is = begins a
      own_seat (call.CreateSession old info) a stays may hands is = creates old info a is
      own_seat (call.QuerySession target) a stays may hands is = queries target a stays is
      own_seat (call.SetDisp kinds) a stays may hands is = disposes kinds a stays is
      own_seat call.GetAllTokens a stays may hands is = lists a may stays is
      own_seat (call.FindEventMsg u room) a stays may hands is = finds u room may.0 may.1.0 may.1.1 a stays hands is
      own_seat (call.GetEvents most room) a stays may hands is = gets most room a stays hands is
      own_seat (call.Respond u response) a stays may hands is = responds u response may a stays is
      own_seat c a stays may hands is = plain seat c a stays (λ u found. found) refl is given each
