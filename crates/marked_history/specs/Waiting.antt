-- Which accesses may still wait where a store has settled.
use Rattle.std.specs.Prelude.{◌≡◌, ◌⊎◌, ℕ, List, [], ◌∷◌, ◌++◌, Bool, true, Some, None, Contains}
use Rattle.std.specs.List.{list_all}
use Rattle.hsm_types.specs.Callers.{IsCallerNumber}
use Rattle.hsm_types.specs.Daemons.{kinds_of}
use Rattle.hsm_types.specs.Limits.{buffer_bytes}
use Rattle.hsm_types.specs.Messages.{takes}
use Rattle.hsm_types.specs.Rights.{conflict}
use Rattle.hsm_types.specs.Sessions.{queue_of, outstanding_of}
use Rattle.hsm_types.specs.declared.calls.Reply.TheVariants.{Blocked, Still}
use Rattle.hsm_types.specs.declared.daemons.Daemon.{Daemon}
use Rattle.hsm_types.specs.declared.daemons.Daemon.TheVariants.{Recall, Migrate}
use Rattle.hsm_types.specs.declared.dm.DmCall.TheVariants.{GetEvents, RequestRight}
use Rattle.hsm_types.specs.declared.dm.DmRefusal.{DmRefusal}
use Rattle.hsm_types.specs.declared.dm.DmRefusal.TheVariants.{NoObject, NoToken, NotYours, NoSession, Again}
use Rattle.hsm_types.specs.declared.dm.DmReply.TheVariants.{Refused}
use Rattle.hsm_types.specs.declared.dm.Right.TheVariants.{Excl}
use Rattle.hsm_types.specs.declared.keys.Handle.{Handle}
use Rattle.hsm_types.specs.declared.keys.Sid.{Sid}
use Rattle.hsm_types.specs.declared.keys.Token.{Token}
use Rattle.hsm_types.specs.declared.messages.Message.{Message}
use Rattle.hsm_types.specs.declared.stores.Superblock.{Superblock}
use Rattle.plain_model.specs.declared.entries.Action.TheVariants.{Resume, Dm}
use Rattle.plain_model.specs.declared.entries.Actor.TheVariants.{Session}
use Rattle.plain_model.specs.declared.entries.Answer.TheVariants.{Dm as Told}
use Rattle.plain_model.specs.declared.entries.Entry.{Entry}
use Rattle.plain_model.specs.Ledger.{Access}
use Rattle.plain_model.specs.State.{Held, State, just_opened}
use Rattle.plain_model.specs.Verdict.{reply_to}
use Rattle.plain_model.specs.Exact.{state_by}
use Rattle.plain_model.specs.Laws.{IsRunSeen}
use Rattle.hsm_policy.specs.Settings.{Numbers}
use Rattle.daemon_session.specs.declared.events.Kept.{Kept}
use Rattle.daemon_session.specs.Seats.{Seat, IsSeated}
use Rattle.hsm_core.specs.Answers.{entry_of}
use Rattle.hsm_core.specs.Packed.{ArePacked}
use Rattle.marked_history.specs.Marks.{Mark, entries_of}
use Rattle.marked_history.specs.Quiet.{is_quiet}
use Rattle.marked_history.specs.Served.{Shown, nothing_shown, shown, IsTold, Served}
use Rattle.marked_history.specs.Tokens.{IsTaken, seat_of, IsNamed}

-- which daemons run
pub record Running : Type 0 where
  pub recall : Bool
  pub migrate : Bool

abbrev pub runs : Daemon → Running → Bool
runs Recall r = r.recall
runs Migrate r = r.migrate

-- ---- who may wait, and for what

module _ (r : Running) (k : Shown) (marks : List Mark) (st : State) where
  -- The message is of a kind of the running daemon, and in the queue of its session or outstanding to it. No line of the script took it.
  pub record IsServable (daemon : Daemon) (m : Message) : Type 0 where
    pub sid : Sid
    pub running : runs daemon r ≡ true
    pub uses : (seat_of daemon k).sid ≡ Some sid
    pub there : Contains (queue_of sid st.sessions ++ outstanding_of sid st.sessions) m
    pub kind : takes (kinds_of daemon) m.kind ≡ true
    pub left : IsTaken daemon marks m.token → ⊥

  -- The token is that of such a message, which is outstanding. No line of the script named it in a request or a downgrade.
  pub record IsOwn (t : Token) : Type 0 where
    pub daemon : Daemon
    pub message : Message
    pub token : message.token ≡ t
    pub servable : IsServable daemon message
    pub outstanding : Contains (outstanding_of servable.sid st.sessions) message
    pub unnamed : IsNamed marks t → ⊥

  abbrev pub IsForeign : Token → Type 0
  IsForeign t = IsOwn t → ⊥

  -- a right of a foreign token on its file excludes that it gets all of it
  pub record IsHeldUp (m : Message) : Type 0 where
    pub handle : Handle
    pub has : m.handle ≡ Some handle
    pub other : Token
    pub hinders : conflict handle.key Excl m.token st.rights ≡ Some other
    pub foreign : IsForeign other

  -- Why an access waits: a right of a foreign token blocks it. Or it waits for a token, and each message of that which a daemon may serve is recall's, was
  -- given to it, and is held up. So none of them is still in its queue.
  abbrev pub MayWait : Superblock → ℕ → Access → Type 0
  MayWait s c a = ((t : Token) × (reply_to s st c Resume ≡ Blocked t) × IsForeign t)
      ⊎ ((t : Token) × (a.token ≡ Some t) × (a.answer ≡ None) × ((daemon : Daemon) (m : Message) → m.token ≡ t → (is : IsServable daemon m) → (daemon ≡ Recall) × Contains (outstanding_of is.sid st.sessions) m × IsHeldUp m))

-- ---- a store at rest

-- the session was told that there are no more events
abbrev pub no_more : Sid → Entry
no_more sid = entry_of (Session sid) (Dm (GetEvents 0 buffer_bytes)) (Told (Refused Again))

-- it was refused all of the file
abbrev pub unserved : Sid → Token → Handle → DmRefusal → Entry
unserved sid t h cause = entry_of (Session sid) (Dm (RequestRight t h Excl)) (Told (Refused cause))

-- for such a cause recall puts the event off
abbrev pub PutsOff : DmRefusal → Type 0
PutsOff NoObject = ⊥
PutsOff NoToken = ⊥
PutsOff (NotYours owner) = ⊥
PutsOff NoSession = ⊥
PutsOff cause = Unit {0}

-- In its last turn it was refused the file, as it was told it, of each event that it keeps, and was told at the end that there are no more.
pub record RecallRests (seat : Seat) (turn : List Entry) : Type 0 where
  pub sid : Sid
  pub seated : IsSeated seat sid
  pub first : List Entry
  pub ends : turn ≡ first ++ no_more sid ∷ []
  pub refused : (x : Kept) → Contains seat.kept x → (h : Handle) × (cause : DmRefusal) × IsTold seat.kept x.event.token h × Contains turn (unserved sid x.event.token h cause) × PutsOff cause

-- It keeps no event, and was told at the end of its last turn that there are no more.
pub record MigrateRests (seat : Seat) (turn : List Entry) : Type 0 where
  pub sid : Sid
  pub seated : IsSeated seat sid
  pub none : seat.kept ≡ []
  pub first : List Entry
  pub ends : turn ≡ first ++ no_more sid ∷ []

-- The last entries are a turn of recall and one of migration, all of it quiet. Each daemon that runs rests or has no session, and no access may go on.
pub record IsAtRest (r : Running) (k : Shown) (s : Superblock) (st : State) (es : List Entry) : Type 0 where
  pub before : List Entry
  pub recall_turn : List Entry
  pub migrate_turn : List Entry
  pub history : es ≡ before ++ recall_turn ++ migrate_turn
  pub quiet : list_all is_quiet (recall_turn ++ migrate_turn) ≡ true
  pub recall : r.recall ≡ true → (k.recall.seat.sid ≡ None) ⊎ RecallRests k.recall.seat recall_turn
  pub migrate : r.migrate ≡ true → (k.migrate.seat.sid ≡ None) ⊎ MigrateRests k.migrate.seat migrate_turn
  pub waits : (c : ℕ) (a : Access) → IsCallerNumber c → (state_by s st es).ledger.pending c ≡ Some a
      → ((t : Token) × (reply_to s (state_by s st es) c Resume ≡ Still t)) ⊎ ((t : Token) × (reply_to s (state_by s st es) c Resume ≡ Blocked t))

-- ---- the law

-- each access that waits in the state behind the entries
abbrev pub AllMayWait : Running → Shown → List Mark → Superblock → State → Type 0
AllMayWait r k marks s st = (c : ℕ) (a : Access) → IsCallerNumber c → st.ledger.pending c ≡ Some a → MayWait r k marks st s c a

abbrev pub SettledWaits : Running → Numbers → Superblock → ℕ → Held → List Mark → List Entry → Type 0
SettledWaits r limits s base h marks es = entries_of marks ≡ es → Served limits marks → IsRunSeen ⊥ s base h es → ArePacked s (just_opened base h) es
    → IsAtRest r (shown limits nothing_shown marks) s (just_opened base h) es → AllMayWait r (shown limits nothing_shown marks) marks s (state_by s (just_opened base h) es)
