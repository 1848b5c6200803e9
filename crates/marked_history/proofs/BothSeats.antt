-- What is outstanding to the sessions of two daemons stays accounted for through entries of lines and calls of both.
use Rattle.std.proofs.Common.{◌≡◌, ℕ, ◌+◌, ◌≤◌, true, false, List, None, Some, inl, inr, refl, sym, ap, subst, ◌∙◌, arith}
use Rattle.std.proofs.lemmas.List.Elements.{All-weaker}
use Rattle.std.specs.Prelude.{◌⊎◌, Contains}
use Rattle.hsm_types.specs.Messages.{handed_out}
use Rattle.hsm_types.specs.Sessions.{SessionTable, next_sid, queue_of, tokens_of}
use Rattle.hsm_types.specs.declared.calls.Reply.{Reply}
use Rattle.hsm_types.specs.declared.daemons.Daemon.{Daemon}
use Rattle.hsm_types.specs.declared.dm.DmCall.{DmCall}
use Rattle.hsm_types.specs.declared.dm.DmCall.TheVariants as call
use Rattle.hsm_types.specs.declared.dm.DmRefusal.TheVariants as why
use Rattle.hsm_types.specs.declared.dm.DmReply.{DmReply}
use Rattle.hsm_types.specs.declared.dm.DmReply.TheVariants as reply
use Rattle.hsm_types.specs.declared.keys.Sid.{Sid}
use Rattle.hsm_types.specs.declared.keys.Token.{Token}
use Rattle.hsm_types.specs.declared.messages.Message.{Message}
use Rattle.hsm_types.specs.declared.stores.Superblock.{Superblock}
use Rattle.plain_model.specs.declared.entries.Action.{Action}
use Rattle.plain_model.specs.declared.entries.Action.TheVariants.{Dm}
use Rattle.plain_model.specs.declared.entries.Actor.{Actor}
use Rattle.plain_model.specs.declared.entries.Actor.TheVariants.{Session}
use Rattle.plain_model.specs.declared.entries.Answer.{Answer}
use Rattle.plain_model.specs.declared.entries.Answer.TheVariants.{Dm as Told}
use Rattle.plain_model.specs.Effects.{change_of}
use Rattle.plain_model.specs.State.{State, changed}
use Rattle.plain_model.specs.Stands.{InOrder}
use Rattle.plain_model.specs.Exact.{IsAnswer, left_by}
use Rattle.dm_service.specs.Handing.{HandsOut}
use Rattle.daemon_session.specs.Seats.{Seat, seat_asks, seat_hears}
use Rattle.recall_daemon.proofs.Outcomes.{TellsGone, AsksOn, Keeps, but_kept}
use Rattle.marked_history.proofs.Carrying.{Each, posted_each}
use Rattle.marked_history.proofs.Handing.{told_each, PostsParked}
use Rattle.marked_history.proofs.AnyAnswer.{left_so}
use Rattle.marked_history.proofs.Remembering.{leads, stays}
use Rattle.marked_history.proofs.Leaving.{Hands, told_gone, IsOn, own_reply, done_left}
use Rattle.marked_history.proofs.Accounting.{mapped_in, Finds, Accounted, AllAccounted, all_later, changed_on, forgot_on}
use Rattle.marked_history.proofs.OwnSeats.{HasToken, user_has, IsGiven, SeatMay, tables_on, gone_after, own_seat}

-- ---- which session a daemon has

-- its session stays, or it has none, or one that was made then
abbrev pub Moves : SessionTable → SessionTable → Seat → Seat → Type 0
Moves t after seat next = (next.sid ≡ seat.sid) ⊎ ((next.sid ≡ None) ⊎ ((next.sid ≡ Some (next_sid t)) × (after.given ≡ t.given + 1)))

-- two daemons have different sessions
abbrev pub AreApart : Seat → Seat → Type 0
AreApart seat other = (a b : Sid) → seat.sid ≡ Some a → other.sid ≡ Some b → a.0 ≡ b.0 → ⊥

pub moves_given : (t after : SessionTable) (seat next : Seat) → t.given ≤ after.given → Moves t after seat next → IsGiven t seat → IsGiven after next
moves_given t after seat next more (inl same) given sid own = let low = given sid (sym same ∙ own) in omega arith
moves_given t after seat next more (inr (inl none)) given sid own = let wrong : None ≡ Some sid = sym none ∙ own in absurd cc
moves_given t after seat next more (inr (inr is)) given sid own =
    let same : Some (next_sid t) ≡ Some sid = sym is.0 ∙ own in
    let one : next_sid t ≡ sid = cc in
    let number : t.given + 1 ≡ sid.0 = ap (λ (y : Sid). y.0) one in
    let top = is.1 in
    omega arith

pub moves_apart : (t after : SessionTable) (seat next other : Seat) → Moves t after seat next → IsGiven t other → AreApart seat other → AreApart next other
moves_apart t after seat next other (inl same) given apart a b mine theirs = apart a b (sym same ∙ mine) theirs
moves_apart t after seat next other (inr (inl none)) given apart a b mine theirs = let wrong : None ≡ Some a = sym none ∙ mine in absurd cc
moves_apart t after seat next other (inr (inr is)) given apart a b mine theirs =
    let same : Some (next_sid t) ≡ Some a = sym is.0 ∙ mine in
    let one : next_sid t ≡ a = cc in
    let number : t.given + 1 ≡ a.0 = ap (λ (y : Sid). y.0) one in
    let low = given b theirs in
    λ equal. omega arith

pub later_given : (t after : SessionTable) (seat : Seat) → t.given ≤ after.given → IsGiven t seat → IsGiven after seat
later_given t after seat more given sid own = let low = given sid own in omega arith

module _ (s : Superblock) (st : State) (x : Sid) where
  abbrev pub after : DmCall → DmReply → SessionTable
  after c a = (left_by s st (Session x) (Dm c) (Told a)).sessions

  creates : (d : Daemon) (seat : Seat) (old : Sid) (info : List ℕ) (a : DmReply) → IsAnswer s st (Session x) (Dm (call.CreateSession old info)) (Told a)
      → Moves st.sessions (after (call.CreateSession old info) a) seat (seat_hears d (seat_asks seat (call.CreateSession old info)) (call.CreateSession old info) a)
  creates d seat old info (reply.Session new) is =
      let given : reply.Session new ≡ reply.Session (next_sid st.sessions) = (own_reply s st x (call.CreateSession old info) (reply.Session new) is refl).1 in
      let one : new ≡ next_sid st.sessions = cc given in
      inr (inr (ap (λ (y : Sid). Some y) one, ap (λ (t : SessionTable). t.given) (done_left s st x (call.CreateSession old info) (reply.Session new) refl)))
  creates d seat old info a is = inr (inl refl)

  begins : (d : Daemon) (seat : Seat) (a : DmReply) → Moves st.sessions (after call.GetAllSessions a) seat (seat_hears d (seat_asks seat call.GetAllSessions) call.GetAllSessions a)
  begins d seat (reply.Sids ids) = inr (inl refl)
  begins d seat a = inr (inl refl)

  pub seat_moves : (d : Daemon) (seat : Seat) (c : DmCall) (a : DmReply) → IsAnswer s st (Session x) (Dm c) (Told a) → Moves st.sessions (after c a) seat (seat_hears d (seat_asks seat c) c a)
  seat_moves d seat call.GetAllSessions a is = begins d seat a
  seat_moves d seat (call.CreateSession old info) a is = creates d seat old info a is
  seat_moves d seat c a is = inl (stays d seat c a refl)

-- ---- a call of a daemon

-- it changes no session
on_still : (st : State) (x : Sid) (c : DmCall) (u : Token) → AsksOn u c → IsOn u c × (leads c ≡ false) × ((changed (change_of x c) st).sessions ≡ st.sessions)
on_still st x (call.RequestRight t h r) u on = (on, refl, refl)
on_still st x (call.GetFileAttr t h) u on = (on, refl, refl)
on_still st x (call.GetAllocInfo t h) u on = (on, refl, refl)
on_still st x (call.Restore t h j bytes) u on = (on, refl, refl)
on_still st x c u on = absurd on

gone_told : (a : DmReply) → TellsGone a → told_gone a ≡ true
gone_told (reply.Refused why.NoToken) gone = refl
gone_told (reply.Refused (why.NotYours owner)) gone = refl
gone_told a gone = absurd gone

-- of what was taken before an entry, and what is behind it
module _ (s : Superblock) (st : State) (ordered : InOrder st) (d : Daemon) (Taken Later : Token → Type 0) where
  module _ (tokened : Each HasToken st.sessions) (x : Sid) where
    -- what is accounted for by the seat that the answer alone leaves
    pub keeps_all : (seat : Seat) → IsGiven st.sessions seat → AllAccounted d Taken st.sessions seat → (c : DmCall) (a : DmReply) → ((u : Token) → (Finds c a u → ⊥) → Taken u → Later u) → SeatMay seat x c → HandsOut st.sessions x c a → IsAnswer s st (Session x) (Dm c) (Told a)
        → ((u : Token) → AsksOn u c → seat.sid ≡ Some x) → Keeps (AllAccounted d Later (after s st x c a)) c a (seat_hears d (seat_asks seat c) c a)
    keeps_all seat given each c a stays_so may hands is at =
        let next : Seat = seat_hears d (seat_asks seat c) c a in
        let own : AllAccounted d Later (after s st x c a) next = own_seat s st ordered d tokened Taken Later x seat given each c a stays_so may hands is in
        record {
          is = own;
          marks = λ f same. changed_on d (after s st x c a) Later next own f same;
          drops = λ u on gone.
              let still = on_still st x c u on in
              forgot_on d (after s st x c a) Later next own x u (stays d seat c a still.1 ∙ at u on) (gone_after s st ordered d tokened Taken Later x c a u still.0 still.2 is (gone_told a gone));
        }

  -- an entry of a line
  pub line_on : (seat : Seat) (who : Actor) (what : Action) (answer : Answer) → IsAnswer s st who what answer → IsGiven st.sessions seat → ((u : Token) → Taken u → Later u)
      → ((sid : Sid) (most room : ℕ) (bytes : List ℕ) (tokens : List Token) (u : Token) → who ≡ Session sid → what ≡ Dm (call.GetEvents most room) → answer ≡ Told (reply.Packed bytes tokens) → Contains tokens u → Later u)
      → AllAccounted d Taken st.sessions seat → AllAccounted d Later (left_by s st who what answer).sessions seat
  line_on seat who what answer is given later takes each =
      tables_on s st ordered d Later seat who what answer is given (λ sid unfound own left. handed sid unfound) (all_later d st.sessions Taken Later seat later each)
    where
      handed : (sid : Sid) (unfound : List Token) → Hands (Accounted d Later seat.kept unfound) st sid who what answer
      handed sid unfound most room bytes tokens who_is what_is answer_is these =
          All-weaker (λ m. Contains (tokens_of (handed_out most room (queue_of sid st.sessions))) m.token) (Accounted d Later seat.kept unfound)
          (λ m there own. inr (inr (takes sid most room bytes tokens m.token who_is what_is answer_is (subst (λ (l : List Token). Contains l m.token) (sym these) there))))
          (handed_out most room (queue_of sid st.sessions)) (mapped_in (λ (m : Message). m.token) (handed_out most room (queue_of sid st.sessions)))

  -- one of the other daemon
  pub other_on : (seat other : Seat) (x : Sid) (c : DmCall) (a : DmReply) → AreApart seat other → SeatMay other x c → IsAnswer s st (Session x) (Dm c) (Told a) → IsGiven st.sessions seat → ((u : Token) → Taken u → Later u)
      → AllAccounted d Taken st.sessions seat → AllAccounted d Later (left_by s st (Session x) (Dm c) (Told a)).sessions seat
  other_on seat other x c a apart may is given later each =
      tables_on s st ordered d Later seat (Session x) (Dm c) (Told a) is given (λ sid unfound own left. handed sid unfound own) (all_later d st.sessions Taken Later seat later each)
    where
      handed : (sid : Sid) (unfound : List Token) → seat.sid ≡ Some sid → Hands (Accounted d Later seat.kept unfound) st sid (Session x) (Dm c) (Told a)
      handed sid unfound own most room bytes tokens who_is what_is answer_is these =
          let asked : c ≡ call.GetEvents most room = cc what_is in
          let theirs : other.sid ≡ Some x = subst (SeatMay other x) asked may in
          let one : x ≡ sid = cc who_is in
          absurd (apart sid x own theirs (ap (λ (y : Sid). y.0) (sym one)))

pub keeps_moved : (s : Superblock) (st : State) (x : Sid) (d : Daemon) (seat : Seat) (c : DmCall) (a : DmReply) → IsAnswer s st (Session x) (Dm c) (Told a) → Keeps (Moves st.sessions (after s st x c a) seat) c a (seat_hears d (seat_asks seat c) c a)
keeps_moved s st x d seat c a is = but_kept (Moves st.sessions (after s st x c a) seat) c a (seat_hears d (seat_asks seat c) c a) (λ kept. seat_moves s st x d seat c a is)

pub other_way : (seat other : Seat) → AreApart seat other → AreApart other seat
other_way seat other apart a b mine theirs equal = apart b a theirs mine (sym equal)

-- ---- messages have tokens

module _ (s : Superblock) (st : State) (each : Each HasToken st.sessions) where
  parked_tokened : (after : State) (c : ℕ) (answer : Reply) → PostsParked s st after c answer → Each HasToken after.sessions
  parked_tokened after c answer (inl same) = subst (λ (t : SessionTable). Each HasToken t) (sym same) each
  parked_tokened after c answer (inr p) = subst (λ (t : SessionTable). Each HasToken t) (sym p.posts) (posted_each HasToken p.message st.sessions each (λ d own. p.real))

  pub left_tokened : (who : Actor) (what : Action) (answer : Answer) → Each HasToken (left_by s st who what answer).sessions
  left_tokened who what answer = left_so s st (Each HasToken) each (told_each HasToken user_has st each None s) parked_tokened who what answer
