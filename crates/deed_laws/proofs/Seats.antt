-- How the seats of two daemons stand to the sessions, and what one deed makes of that.
use Rattle.std.proofs.Common.{◌≡◌, ◌∙◌, ◌⊎◌, ℕ, ◌≤◌, Bool, true, false, List, [], ◌∷◌, ◌++◌, Option, None, Some, inl, inr, refl, sym, ap, subst, arith}
use Rattle.std.proofs.lemmas.Bool.{false≢true}
use Rattle.std.proofs.lemmas.Option.{none-some}
use Rattle.std.specs.Prelude.{Contains}
use Rattle.hsm_types.specs.Sessions.{SessionTable}
use Rattle.hsm_types.specs.declared.daemons.Act.{Act}
use Rattle.hsm_types.specs.declared.daemons.Act.TheVariants as act
use Rattle.hsm_types.specs.declared.daemons.Daemon.{Daemon}
use Rattle.hsm_types.specs.declared.daemons.Daemon.TheVariants.{Recall, Migrate}
use Rattle.hsm_types.specs.declared.daemons.Heard.{Heard}
use Rattle.hsm_types.specs.declared.daemons.Heard.TheVariants as heard
use Rattle.hsm_types.specs.declared.daemons.Heard.TheVariants.{Nothing}
use Rattle.hsm_types.specs.declared.dm.DmCall.{DmCall}
use Rattle.hsm_types.specs.declared.dm.DmCall.TheVariants as call
use Rattle.hsm_types.specs.declared.dm.DmRefusal.TheVariants.{Disk}
use Rattle.hsm_types.specs.declared.dm.DmReply.{DmReply}
use Rattle.hsm_types.specs.declared.dm.DmReply.TheVariants as reply
use Rattle.hsm_types.specs.declared.keys.Sid.{Sid}
use Rattle.hsm_types.specs.declared.keys.Token.{Token}
use Rattle.hsm_types.specs.declared.stores.Superblock.{Superblock}
use Rattle.plain_model.specs.declared.entries.Action.{Action}
use Rattle.plain_model.specs.declared.entries.Action.TheVariants.{Dm}
use Rattle.plain_model.specs.declared.entries.Actor.{Actor}
use Rattle.plain_model.specs.declared.entries.Actor.TheVariants.{Session}
use Rattle.plain_model.specs.declared.entries.Answer.{Answer}
use Rattle.plain_model.specs.declared.entries.Answer.TheVariants.{Dm as Told}
use Rattle.plain_model.specs.declared.entries.Entry.{Entry}
use Rattle.plain_model.specs.State.{State}
use Rattle.plain_model.specs.Stands.{InOrder}
use Rattle.plain_model.specs.Exact.{IsAnswer, left_by}
use Rattle.dm_service.specs.Handing.{HandsOut}
use Rattle.daemon_session.specs.Seats.{Seat, no_seat, seat_asks}
use Rattle.recall_daemon.proofs.Outcomes.{AsksOn}
use Rattle.marked_history.proofs.Accounting.{Finds, AllAccounted, none_accounted, all_later, changed_on}
use Rattle.marked_history.proofs.BothSeats.{Moves, AreApart, moves_given, moves_apart, later_given, other_way, keeps_all, keeps_moved, line_on, other_on}
use Rattle.marked_history.proofs.Carrying.{Each}
use Rattle.marked_history.proofs.Leaving.{left_given}
use Rattle.marked_history.proofs.OwnSeats.{HasToken, IsGiven, SeatMay}
use Rattle.deeds.specs.Deeds.{Deed, Enters, Hears, Breaks, call_told, entry_of, entry_in}
use Rattle.deeds.specs.Lives.{Workings, Living, Move, Begins, Ends, Renews, Asks, Learns, Fails, Misses, hearing, begun, renewed, untold, move_of, deed_by}
use Rattle.deeds.specs.Lives.{life, MovesTo}
use Rattle.deed_laws.specs.Keeping.{loses_next, FindsAgain}
use Rattle.deed_laws.proofs.UnknownTokens.{Gone, gone_more, gone_last, not_own}
use Rattle.deed_laws.proofs.Sitting.{Remarked, Gave, HasAsked, HasGiven, Sits, IsSound, given_seat, seat_now, unheard}

least : (n : ℕ) → n ≤ n
least n = omega arith

-- ---- a seat that goes on

remarked_sid : (s t : Seat) → Remarked s t → t.sid ≡ s.sid
remarked_sid s t (inl same) = ap (λ (y : Seat). y.sid) same
remarked_sid s t (inr is) = ap (λ (y : Seat). y.sid) is.2

asks_sid : (t : SessionTable) (s : Seat) (c : DmCall) → Moves t t s (seat_asks s c)
asks_sid t s call.GetAllSessions = inr (inl refl)
asks_sid t s (call.CreateSession old info) = inr (inl refl)
asks_sid t s c = inl refl

gave_sid : (t : SessionTable) (s : Seat) (asked : Act) (u : Seat) → Gave s asked u → Moves t t s u
gave_sid t s (act.Dm x c) u gave = subst (Moves t t s) (sym gave) (asks_sid t s c)
gave_sid t s act.Idle u gave = inl (remarked_sid s u gave)
gave_sid t s (act.Copy volume h segment bytes) u gave = inl (remarked_sid s u gave)
gave_sid t s (act.Fetch entry) u gave = inl (remarked_sid s u gave)

module _ (d : Daemon) (Taken : Token → Type 0) (t : SessionTable) where
  remarked_so : (s u : Seat) → Remarked s u → AllAccounted d Taken t s → AllAccounted d Taken t u
  remarked_so s u (inl same) is = subst (AllAccounted d Taken t) (sym same) is
  remarked_so s u (inr is) each = subst (AllAccounted d Taken t) (sym is.2) (changed_on d t Taken s each is.0 is.1)

  asks_so : (s : Seat) (c : DmCall) → AllAccounted d Taken t s → AllAccounted d Taken t (seat_asks s c)
  asks_so s call.GetAllSessions is = none_accounted d t Taken no_seat refl
  asks_so s (call.CreateSession old info) is = none_accounted d t Taken no_seat refl
  asks_so s c is = is

  gave_so : (s : Seat) (asked : Act) (u : Seat) → Gave s asked u → AllAccounted d Taken t s → AllAccounted d Taken t u
  gave_so s (act.Dm x c) u gave is = subst (AllAccounted d Taken t) (sym gave) (asks_so s c is)
  gave_so s act.Idle u gave is = remarked_so s u gave is
  gave_so s (act.Copy volume h segment bytes) u gave is = remarked_so s u gave is
  gave_so s (act.Fetch entry) u gave is = remarked_so s u gave is

-- ---- the seats of one daemon

-- where it gave its act, and with what it has heard; and whether it awaits that. One that doesn't run has no session
pub record Seats : Type 0 where
  pub given : Seat
  pub now : Seat
  pub awaits : Bool

abbrev awaits_by : Option Heard → Bool
awaits_by None = true
awaits_by (Some told) = false

abbrev pub seats_of : {M : Type 0} (d : Daemon) (w : Workings M) (sits : Sits d w) → Option (Living M) → Seats
seats_of d w sits None = record { given = no_seat; now = no_seat; awaits = true }
seats_of d w sits (Some r) = record { given = given_seat d w sits r; now = seat_now d w sits r; awaits = awaits_by r.hears }

-- What is outstanding is accounted for by what it knows, but where that will be lost; and then, and where an answer is awaited, by what it knew where it gave
-- its act.
pub record Stands (d : Daemon) (Taken : Token → Type 0) (t : SessionTable) (lost : Bool) (v : Seats) : Type 0 where
  pub given : (v.awaits ≡ true) ⊎ (lost ≡ true) → AllAccounted d Taken t v.given
  pub now : lost ≡ false → AllAccounted d Taken t v.now
  pub given_id : IsGiven t v.given
  pub now_id : IsGiven t v.now

none_given : (t : SessionTable) → IsGiven t no_seat
none_given t sid own = absurd (none-some _ own)

pub none_stands : (d : Daemon) (Taken : Token → Type 0) (t : SessionTable) (lost : Bool) → Stands d Taken t lost (record { given = no_seat; now = no_seat; awaits = true })
none_stands d Taken t lost = record { given = λ un. none_accounted d t Taken no_seat refl; now = λ un. none_accounted d t Taken no_seat refl; given_id = none_given t; now_id = none_given t }

-- both are accounted for where nothing of use is heard, or is awaited
both_stand : (d : Daemon) (Taken : Token → Type 0) (t : SessionTable) (lost awaits : Bool) (s u : Seat) → Remarked s u → IsGiven t s → AllAccounted d Taken t s → Stands d Taken t lost (record { given = s; now = u; awaits = awaits })
both_stand d Taken t lost awaits s u remarked id is = record {
  given = λ un. is;
  now = λ un. remarked_so d Taken t s u remarked is;
  given_id = id;
  now_id = λ sid own. id sid (sym (remarked_sid s u remarked) ∙ own);
}

pub later_stands : (d : Daemon) (Taken Later : Token → Type 0) (t : SessionTable) (lost : Bool) (v : Seats) → ((u : Token) → Taken u → Later u) → Stands d Taken t lost v → Stands d Later t lost v
later_stands d Taken Later t lost v later is = record {
  given = λ un. all_later d t Taken Later v.given later (is.given un);
  now = λ un. all_later d t Taken Later v.now later (is.now un);
  given_id = is.given_id;
  now_id = is.now_id;
}

-- ---- both daemons

abbrev Beside : Seat → Seats → Type 0
Beside s w = AreApart s w.given × AreApart s w.now

abbrev pub Aparts : Seats → Seats → Type 0
Aparts v w = Beside v.given w × Beside v.now w

turned : (v w : Seats) → Aparts v w → Aparts w v
turned v w is = ((other_way v.given w.given is.0.0, other_way v.now w.given is.1.0), (other_way v.given w.now is.0.1, other_way v.now w.now is.1.1))

moves_beside : (t after : SessionTable) (s next : Seat) (w : Seats) → Moves t after s next → IsGiven t w.given → IsGiven t w.now → Beside s w → Beside next w
moves_beside t after s next w moves given now is = (moves_apart t after s next w.given moves given is.0, moves_apart t after s next w.now moves now is.1)

none_beside : (w : Seats) → Beside no_seat w
none_beside w = (λ a b mine theirs equal. none-some _ mine, λ a b mine theirs equal. none-some _ mine)

-- one of them, and the other, with what is taken from each, and whether what it heard is lost
pub record Both (d e : Daemon) (Mine Theirs : Token → Type 0) (t : SessionTable) (lost lost_too : Bool) (v w : Seats) : Type 0 where
  pub own : Stands d Mine t lost v
  pub other : Stands e Theirs t lost_too w
  pub apart : Aparts v w

pub other_side : (d e : Daemon) (Mine Theirs : Token → Type 0) (t : SessionTable) (lost lost_too : Bool) (v w : Seats) → Both d e Mine Theirs t lost lost_too v w → Both e d Theirs Mine t lost_too lost w v
other_side d e Mine Theirs t lost lost_too v w is = record { own = is.other; other = is.own; apart = turned v w is.apart }

pub first_both : (d e : Daemon) (Mine Theirs : Token → Type 0) (t : SessionTable) (lost lost_too : Bool) → Both d e Mine Theirs t lost lost_too (record { given = no_seat; now = no_seat; awaits = true }) (record { given = no_seat; now = no_seat; awaits = true })
first_both d e Mine Theirs t lost lost_too = record {
  own = none_stands d Mine t lost;
  other = none_stands e Theirs t lost_too;
  apart = (none_beside (record { given = no_seat; now = no_seat; awaits = true }), none_beside (record { given = no_seat; now = no_seat; awaits = true }));
}

-- ---- moves that are no entries

module _ {M : Type 0} (d e : Daemon) (w : Workings M) (sits : Sits d w) (Mine Theirs : Token → Type 0) (t : SessionTable) (lost_too : Bool) (theirs : Seats) where
  abbrev seats : Option (Living M) → Seats
  seats r = seats_of d w sits r

  abbrev Two : Bool → Option (Living M) → Type 0
  Two lost r = Both d e Mine Theirs t lost lost_too (seats r) theirs

  -- it has heard nothing of use, or awaits what it will
  pub rests : (lost : Bool) (m : M) (hears : Option Heard) → Remarked (sits.seat m) (seat_now d w sits (hearing m hears)) → IsGiven t (sits.seat m) → AllAccounted d Mine t (sits.seat m) → Beside (sits.seat m) theirs → Stands e Theirs t lost_too theirs → Two lost (Some (hearing m hears))
  rests lost m hears remarked id each apart other = record {
    own = both_stand d Mine t lost (awaits_by hears) (sits.seat m) (seat_now d w sits (hearing m hears)) remarked id each;
    other = other;
    apart = (apart, moves_beside t t (sits.seat m) (seat_now d w sits (hearing m hears)) theirs (inl (remarked_sid (sits.seat m) (seat_now d w sits (hearing m hears)) remarked)) other.given_id other.now_id apart);
  }

  begins : (lost : Bool) → Stands e Theirs t lost_too theirs → Two lost (Some (begun w))
  begins lost other =
      rests lost w.first (Some Nothing) (unheard d w sits w.first) (subst (IsGiven t) (sym sits.first) (none_given t)) (subst (AllAccounted d Mine t) (sym sits.first) (none_accounted d t Mine no_seat refl))
      (subst (λ (y : Seat). Beside y theirs) (sym sits.first) (none_beside theirs)) other

  ends : (lost : Bool) → Stands e Theirs t lost_too theirs → Two lost None
  ends lost other = record { own = none_stands d Mine t lost; other = other; apart = (none_beside theirs, none_beside theirs) }

  renews : (lost : Bool) (m : M) (hears : Option Heard) → Two lost (Some (hearing m hears)) → Two lost (Some (renewed w (hearing m hears)))
  renews lost m None is =
      subst (λ (y : Seat). Both d e Mine Theirs t lost lost_too (record { given = y; now = sits.told (w.again m) Nothing; awaits = true }) theirs) (sym (sits.again m))
      (subst (λ (y : Seat). Both d e Mine Theirs t lost lost_too (record { given = sits.seat m; now = y; awaits = true }) theirs) (sym (sits.again_told m Nothing)) is)
  renews lost m (Some told) is =
      subst (λ (y : Seat). Both d e Mine Theirs t lost lost_too (record { given = y; now = sits.told (w.again m) (untold told); awaits = false }) theirs) (sym (sits.again m))
      (subst (λ (y : Seat). Both d e Mine Theirs t lost lost_too (record { given = sits.seat m; now = y; awaits = false }) theirs) (sym (sits.again_told m told)) is)

  pub still : (move : Move) (moves : List Move) (old new : Option (Living M)) → MovesTo w move old new → entry_in (deed_by d move) ≡ None → Two (loses_next (move ∷ moves)) old → Two (loses_next moves) new
  still Begins moves None new to none is = subst (Two (loses_next moves)) (sym to) (begins (loses_next moves) is.other)
  still Begins moves (Some r) new to none is = subst (Two (loses_next moves)) (sym to) is
  still Ends moves old new to none is = subst (Two (loses_next moves)) (sym to) (ends (loses_next moves) is.other)
  still Renews moves None new to none is = subst (Two (loses_next moves)) (sym to) is
  still Renews moves (Some r) new to none is = subst (Two (loses_next moves)) (sym to) (renews (loses_next moves) r.machine r.hears is)
  still (Asks asked) moves old new to none is =
      let was : Two false (Some (hearing to.0 (Some to.1))) = subst (Two false) to.3 is in
      let gave : Gave (sits.told to.0 to.1) asked (sits.seat to.2) = sits.gives to.0 to.1 asked to.2 to.4 in
      let moved : Moves t t (sits.told to.0 to.1) (sits.seat to.2) = gave_sid t (sits.told to.0 to.1) asked (sits.seat to.2) gave in
      subst (Two (loses_next moves)) (sym to.5)
      (rests (loses_next moves) to.2 None (unheard d w sits to.2) (moves_given t t (sits.told to.0 to.1) (sits.seat to.2) (least t.given) moved was.own.now_id)
      (gave_so d Mine t (sits.told to.0 to.1) asked (sits.seat to.2) gave (was.own.now refl))
      (moves_beside t t (sits.told to.0 to.1) (sits.seat to.2) theirs moved was.other.given_id was.other.now_id was.apart.1) was.other)
  still (Learns asked told) moves old new to none is =
      let was : Two (loses_next moves) (Some (hearing to.0 None)) = subst (Two (loses_next moves)) to.1 is in
      subst (Two (loses_next moves)) (sym to.4)
      (rests (loses_next moves) to.0 (Some told) (sits.unanswered to.0 told (ap (λ (y : Act). call_told y told) to.2 ∙ none)) was.own.given_id (was.own.given (inl refl)) was.apart.0 was.other)
  still (Fails x c) moves old new to none is = absurd (none-some _ (sym none))
  still Misses moves old new to none is =
      let was : Two true (Some to.0) = subst (Two true) to.1 is in
      subst (Two (loses_next moves)) (sym to.2) (rests (loses_next moves) to.0.machine (Some Nothing) (unheard d w sits to.0.machine) was.own.given_id (was.own.given (inr refl)) was.apart.0 was.other)

-- ---- a call, by the seat where it was given

may_own : (d : Daemon) (s : Seat) (x : Sid) (c : DmCall) → HasAsked d s x c → SeatMay s x c
may_own d s x call.GetAllTokens may = may.0
may_own d s x (call.FindEventMsg u room) may = (may.0, may.3)
may_own d s x (call.GetEvents most room) may = may.session
may_own d s x (call.Respond u response) may = may.session
may_own d s x c may = tt

asks_on : (d : Daemon) (s : Seat) (x : Sid) (c : DmCall) → HasAsked d s x c → (u : Token) → AsksOn u c → s.sid ≡ Some x
asks_on Recall s x (call.RequestRight t h r) may u on = may.0.session
asks_on Recall s x (call.GetFileAttr t h) may u on = may.session
asks_on Recall s x (call.GetAllocInfo t h) may u on = may.session
asks_on Recall s x (call.Restore t h j bytes) may u on = may.session
asks_on Recall s x c may u on = absurd on
asks_on Migrate s x (call.RequestRight t h r) may u on = absurd may
asks_on Migrate s x (call.GetFileAttr t h) may u on = absurd may
asks_on Migrate s x (call.GetAllocInfo t h) may u on = absurd may
asks_on Migrate s x (call.Restore t h j bytes) may u on = absurd may
asks_on Migrate s x c may u on = absurd on

found_call : (d : Daemon) (x : Sid) (c : DmCall) (a : DmReply) (u : Token) → FindsAgain d u (Hears d (act.Dm x c) (heard.Dm a)) → Finds c a u
found_call d x c a u found =
    let asked : c ≡ call.FindEventMsg u found.1 = cc found.4 in
    let told : a ≡ reply.Packed found.2 found.3 = cc found.4 in
    subst (λ (y : DmCall). Finds y a u) (sym asked) (subst (λ (y : DmReply). Finds (call.FindEventMsg u found.1) y u) (sym told) refl)

-- ---- an entry, on what the disk holds

module _ (s : Superblock) (st : State) (ordered : InOrder st) where
  abbrev left : Actor → Action → Answer → SessionTable
  left who what answer = (left_by s st who what answer).sessions

  -- it is as one of a line
  module _ (d : Daemon) (Taken Later : Token → Type 0) (who : Actor) (what : Action) (answer : Answer) (is_so : IsAnswer s st who what answer) (later : (u : Token) → Taken u → Later u)
      (takes : (sid : Sid) (most room : ℕ) (bytes : List ℕ) (tokens : List Token) (u : Token) → who ≡ Session sid → what ≡ Dm (call.GetEvents most room) → answer ≡ Told (reply.Packed bytes tokens) → Contains tokens u → Later u) where
    pub line_stands : (lost : Bool) (v : Seats) → Stands d Taken st.sessions lost v → Stands d Later (left who what answer) lost v
    line_stands lost v is = record {
      given = λ un. line_on s st ordered d Taken Later v.given who what answer is_so is.given_id later takes (is.given un);
      now = λ un. line_on s st ordered d Taken Later v.now who what answer is_so is.now_id later takes (is.now un);
      given_id = later_given st.sessions (left who what answer) v.given (left_given s st who what answer) is.given_id;
      now_id = later_given st.sessions (left who what answer) v.now (left_given s st who what answer) is.now_id;
    }

  module _ (done rest : List Deed) where
    -- of a line
    pub line_taken : (d : Daemon) (e : Entry) (lost : Bool) (v : Seats) → IsAnswer s st e.actor e.action e.answer → Stands d (Gone d done (Enters e ∷ rest)) st.sessions lost v → Stands d (Gone d (done ++ Enters e ∷ []) rest) (left e.actor e.action e.answer) lost v
    line_taken d e lost v is_so is =
        line_stands d (Gone d done (Enters e ∷ rest)) (Gone d (done ++ Enters e ∷ []) rest) e.actor e.action e.answer is_so
        (λ u was. gone_more d done (Enters e) rest u (λ found. absurd (cc found.4)) was)
        (λ sid most room bytes tokens u who what answer there. gone_last d done (Enters e) rest u (inl (sid, most, room, bytes, tokens, (λ i. Enters (entry_of (who i) (what i) (answer i))), there)))
        lost v is

    -- the call of a daemon broke: as one of a line
    pub broken_stands : (d by : Daemon) (x : Sid) (c : DmCall) (lost : Bool) (v : Seats) → IsAnswer s st (Session x) (Dm c) (Told (reply.Refused Disk)) → Stands d (Gone d done (Breaks by x c ∷ rest)) st.sessions lost v
        → Stands d (Gone d (done ++ Breaks by x c ∷ []) rest) (left (Session x) (Dm c) (Told (reply.Refused Disk))) lost v
    broken_stands d by x c lost v is_so is =
        line_stands d (Gone d done (Breaks by x c ∷ rest)) (Gone d (done ++ Breaks by x c ∷ []) rest) (Session x) (Dm c) (Told (reply.Refused Disk)) is_so
        (λ u was. gone_more d done (Breaks by x c) rest u (λ found. absurd (cc found.4)) was)
        (λ sid most room bytes tokens u who what answer there. absurd (cc answer))
        lost v is

    -- ---- a call of a daemon that is answered

    module _ (d : Daemon) (x : Sid) (c : DmCall) (a : DmReply) (is_so : IsAnswer s st (Session x) (Dm c) (Told a)) where
      abbrev deed : Deed
      deed = Hears d (act.Dm x c) (heard.Dm a)

      abbrev Before : Daemon → Token → Type 0
      Before e = Gone e done (deed ∷ rest)

      abbrev Behind : Daemon → Token → Type 0
      Behind e = Gone e (done ++ deed ∷ []) rest

      abbrev then : SessionTable
      then = left (Session x) (Dm c) (Told a)

      -- the other daemon's seats stay
      pub answered_other : (e : Daemon) (differ : move_of e deed ≡ None) (lost : Bool) (seat : Seat) (w : Seats) → Beside seat w → SeatMay seat x c → Stands e (Before e) st.sessions lost w → Stands e (Behind e) then lost w
      answered_other e differ lost seat w apart may is = record {
        given = λ un. other_on s st ordered e (Before e) (Behind e) w.given seat x c a (other_way seat w.given apart.0) may is_so is.given_id later (is.given un);
        now = λ un. other_on s st ordered e (Before e) (Behind e) w.now seat x c a (other_way seat w.now apart.1) may is_so is.now_id later (is.now un);
        given_id = later_given st.sessions then w.given (left_given s st (Session x) (Dm c) (Told a)) is.given_id;
        now_id = later_given st.sessions then w.now (left_given s st (Session x) (Dm c) (Told a)) is.now_id;
      }
        where
          later : (u : Token) → Before e u → Behind e u
          later u was = gone_more e done deed rest u (λ found. absurd (not_own e u deed differ found)) was

      -- Where it is lost, it is as one of a line for what was known where the call was given.
      lost_given : loses_next (life d rest) ≡ true → (seat : Seat) → IsGiven st.sessions seat → AllAccounted d (Before d) st.sessions seat → AllAccounted d (Behind d) then seat
      lost_given lost seat id is =
          line_on s st ordered d (Before d) (Behind d) seat (Session x) (Dm c) (Told a) is_so id
          (λ u was. gone_more d done deed rest u (λ found. lost) was)
          (λ sid most room bytes tokens u who what answer there.
          let own : x ≡ sid = cc who in
          let asked : c ≡ call.GetEvents most room = cc what in
          let told : a ≡ reply.Packed bytes tokens = cc answer in
          gone_last d done deed rest u (inr (d, sid, most, room, bytes, tokens, (λ i. Hears d (act.Dm (own i) (asked i)) (heard.Dm (told i))), lost, there)))
          is

      module _ {M : Type 0} (e : Daemon) (w : Workings M) (sits : Sits d w) (tokened : Each HasToken st.sessions) (hands : HandsOut st.sessions x c a) (differ : move_of e deed ≡ None) (lost_too : Bool) (theirs : Seats) (m : M) (asked : w.asked m ≡ act.Dm x c)
          (sound : IsSound d w sits (hearing m None)) where
        gave : HasGiven d (sits.seat m) (act.Dm x c)
        gave = subst (HasGiven d (sits.seat m)) asked sound.given

        moved : Moves st.sessions then (sits.seat m) (sits.told m (heard.Dm a))
        moved = sits.answered m x c a (Moves st.sessions then (sits.seat m)) sound.so asked (keeps_moved s st x d (sits.seat m) c a is_so)

        heard_now : IsGiven st.sessions (sits.seat m) → AllAccounted d (Before d) st.sessions (sits.seat m) → AllAccounted d (Behind d) then (sits.told m (heard.Dm a))
        heard_now id each =
            sits.answered m x c a (AllAccounted d (Behind d) then) sound.so asked
            (keeps_all s st ordered d (Before d) (Behind d) tokened x (sits.seat m) id each c a (λ u other was. gone_more d done deed rest u (λ found. absurd (other (found_call d x c a u found))) was)
            (may_own d (sits.seat m) x c gave.0) hands is_so (asks_on d (sits.seat m) x c gave.0))

        pub answered : Both d e (Before d) (Before e) st.sessions (loses_next (life d rest)) lost_too (seats_of d w sits (Some (hearing m None))) theirs
            → Both d e (Behind d) (Behind e) then (loses_next (life d rest)) lost_too (seats_of d w sits (Some (hearing m (Some (heard.Dm a))))) theirs
        answered is =
            let each = is.own.given (inl refl) in
            record {
              own = record {
                given = λ un. elim un [
                  | inl awaits ↦ absurd (false≢true awaits)
                  | inr lost ↦ lost_given lost (sits.seat m) is.own.given_id each
                ];
                now = λ un. heard_now is.own.given_id each;
                given_id = later_given st.sessions then (sits.seat m) (left_given s st (Session x) (Dm c) (Told a)) is.own.given_id;
                now_id = moves_given st.sessions then (sits.seat m) (sits.told m (heard.Dm a)) (left_given s st (Session x) (Dm c) (Told a)) moved is.own.given_id;
              };
              other = answered_other e differ lost_too (sits.seat m) theirs is.apart.0 (may_own d (sits.seat m) x c gave.0) is.other;
              apart = (is.apart.0, moves_beside st.sessions then (sits.seat m) (sits.told m (heard.Dm a)) theirs moved is.other.given_id is.other.now_id is.apart.0);
            }
