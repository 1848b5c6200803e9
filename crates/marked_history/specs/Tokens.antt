-- What a marked history says of tokens.
use Rattle.std.specs.Prelude.{◌≡◌, ◌≢◌, ◌⊎◌, ℕ, List, ◌∷◌, ◌++◌, true, Some, Contains}
use Rattle.std.specs.List.{AllByRecursion}
use Rattle.hsm_types.specs.Daemons.{kinds_of}
use Rattle.hsm_types.specs.Messages.{takes}
use Rattle.hsm_types.specs.Rights.{Rights, right_of, conflict}
use Rattle.hsm_types.specs.Sessions.{SessionTable, queue_of, outstanding_of}
use Rattle.hsm_types.specs.declared.daemons.Daemon.{Daemon}
use Rattle.hsm_types.specs.declared.daemons.Daemon.TheVariants.{Recall, Migrate}
use Rattle.hsm_types.specs.declared.dm.DmCall.{DmCall}
use Rattle.hsm_types.specs.declared.dm.DmCall.TheVariants.{GetEvents, FindEventMsg, RequestRight, DowngradeRight}
use Rattle.hsm_types.specs.declared.dm.DmRefusal.TheVariants.{Busy}
use Rattle.hsm_types.specs.declared.dm.DmReply.{DmReply}
use Rattle.hsm_types.specs.declared.dm.DmReply.TheVariants.{Packed, Done, Refused}
use Rattle.hsm_types.specs.declared.dm.Right.{Right}
use Rattle.hsm_types.specs.declared.dm.Right.TheVariants.{Null, Excl}
use Rattle.hsm_types.specs.declared.keys.FileKey.{FileKey}
use Rattle.hsm_types.specs.declared.keys.Handle.{Handle}
use Rattle.hsm_types.specs.declared.keys.Sid.{Sid}
use Rattle.hsm_types.specs.declared.keys.Token.{Token}
use Rattle.hsm_types.specs.declared.messages.Message.{Message}
use Rattle.hsm_types.specs.declared.stores.Superblock.{Superblock}
use Rattle.plain_model.specs.declared.entries.Action.TheVariants.{Dm}
use Rattle.plain_model.specs.declared.entries.Actor.TheVariants.{Session}
use Rattle.plain_model.specs.declared.entries.Answer.TheVariants.{Dm as Told}
use Rattle.plain_model.specs.declared.entries.Entry.{Entry}
use Rattle.plain_model.specs.State.{Held, State, just_opened}
use Rattle.plain_model.specs.Exact.{state_by}
use Rattle.plain_model.specs.Laws.{IsRunSeen}
use Rattle.hsm_policy.specs.Settings.{Numbers}
use Rattle.daemon_session.specs.declared.events.Event.{Event}
use Rattle.daemon_session.specs.declared.events.Kept.{Kept}
use Rattle.daemon_session.specs.Seats.{Seat, IsSeated}
use Rattle.daemon_session.specs.Tellings.{event_on}
use Rattle.hsm_core.specs.Answers.{entry_of}
use Rattle.hsm_core.specs.Packed.{ArePacked}
use Rattle.marked_history.specs.Marks.{Mark, entries_of, no_daemons, made}
use Rattle.marked_history.specs.Served.{Shown, nothing_shown, shown, Served}

-- a line of the script made the call, and was told this
abbrev pub line_told : Sid → DmCall → DmReply → Mark
line_told sid call reply = no_daemons (entry_of (Session sid) (Dm call) (Told reply))

-- ---- tokens that lines of the script took

-- the daemon found the token's message again
abbrev pub FindsAgain : Daemon → Token → Mark → Type 0
FindsAgain daemon t m = (sid : Sid) × (room : ℕ) × (bytes : List ℕ) × (tokens : List Token) × (m ≡ made daemon sid (FindEventMsg t room) (Packed bytes tokens))

-- A line that asked for events was given the token, and the daemon hasn't found its message again since.
pub record IsTaken (daemon : Daemon) (marks : List Mark) (t : Token) : Type 0 where
  pub before : List Mark
  pub sid : Sid
  pub most : ℕ
  pub room : ℕ
  pub bytes : List ℕ
  pub tokens : List Token
  pub rest : List Mark
  pub parted : marks ≡ before ++ line_told sid (GetEvents most room) (Packed bytes tokens) ∷ rest
  pub given : Contains tokens t
  pub lost : AllByRecursion (λ m. FindsAgain daemon t m → ⊥) rest

-- ---- what daemons keep

abbrev pub seat_of : Daemon → Shown → Seat
seat_of Recall k = k.recall.seat
seat_of Migrate k = k.migrate.seat

-- the daemon keeps the token's event
abbrev pub KeepsEvent : List Kept → Token → Type 0
KeepsEvent kept t = (k : Kept) × Contains kept k × (k.event.token ≡ t)

-- Of its kinds a daemon with a session keeps each event that is outstanding to that session, but for those that lines of the script took.
abbrev pub KeepsAll : Daemon → Numbers → Superblock → State → List Mark → Type 0
KeepsAll daemon limits s st marks = (sid : Sid) (m : Message) → IsSeated (seat_of daemon (shown limits nothing_shown marks)) sid → Contains (outstanding_of sid (state_by s st (entries_of marks)).sessions) m → takes (kinds_of daemon) m.kind ≡ true
    → KeepsEvent (seat_of daemon (shown limits nothing_shown marks)).kept m.token ⊎ IsTaken daemon marks m.token

abbrev pub ServedKeepsAll : Daemon → Numbers → Superblock → ℕ → Held → List Mark → List Entry → Type 0
ServedKeepsAll daemon limits s base h marks es = entries_of marks ≡ es → Served limits marks → IsRunSeen ⊥ s base h es → ArePacked s (just_opened base h) es → KeepsAll daemon limits s (just_opened base h) marks

-- ---- what tokens hold

-- a line of the script named the token in a request or a downgrade
abbrev pub NamesIt : Token → Mark → Type 0
NamesIt t m = (sid : Sid) × (h : Handle) × (reply : DmReply) × (((right : Right) × (m ≡ line_told sid (RequestRight t h right) reply)) ⊎ (m ≡ line_told sid (DowngradeRight t h) reply))

pub record IsNamed (marks : List Mark) (t : Token) : Type 0 where
  pub before : List Mark
  pub mark : Mark
  pub rest : List Mark
  pub parted : marks ≡ before ++ mark ∷ rest
  pub names : NamesIt t mark

-- recall has asked for the file with the token, and got it
pub record IsGranted (marks : List Mark) (t : Token) (k : FileKey) : Type 0 where
  pub before : List Mark
  pub sid : Sid
  pub handle : Handle
  pub rest : List Mark
  pub parted : marks ≡ before ++ made Recall sid (RequestRight t handle Excl) Done ∷ rest
  pub file : handle.key ≡ k

-- A token that no line of the script has named so holds what recall was given for it, all of the file, and nothing else.
abbrev pub HoldsGranted : Superblock → State → List Mark → Type 0
HoldsGranted s st marks = (t : Token) (k : FileKey) → right_of t k (state_by s st (entries_of marks)).rights ≢ Null → IsNamed marks t ⊎ ((right_of t k (state_by s st (entries_of marks)).rights ≡ Excl) × IsGranted marks t k)

abbrev pub ServedHoldsGranted : Numbers → Superblock → ℕ → Held → List Mark → List Entry → Type 0
ServedHoldsGranted limits s base h marks es = entries_of marks ≡ es → Served limits marks → IsRunSeen ⊥ s base h es → HoldsGranted s (just_opened base h) marks

-- ---- requests that another token hinders

-- The right of that other token on the file excludes the one that is asked for, and the token that asks doesn't hold all of the file.
pub record IsHindered (rights : Rights) (t : Token) (k : FileKey) (right : Right) (other : Token) : Type 0 where
  pub told : conflict k right t rights ≡ Some other
  pub holds : right_of other k rights ≢ Null
  pub apart : other ≢ t
  pub lacks : right_of t k rights ≢ Excl

-- in the state before it, each request of a run that is answered so
abbrev pub RequestIsGranted : Superblock → ℕ → Held → List Entry → Type 0
RequestIsGranted s base h es = IsRunSeen ⊥ s base h es
    → (before : List Entry) (sid : Sid) (t : Token) (handle : Handle) (right : Right) (other : Token) (rest : List Entry) → es ≡ before ++ entry_of (Session sid) (Dm (RequestRight t handle right)) (Told (Refused (Busy other))) ∷ rest
    → IsHindered (state_by s (just_opened base h) before).rights t handle.key right other

-- ---- what tokens stand for

-- the message is unrouted, or in a session's queue, or outstanding to a session
abbrev pub IsPresent : SessionTable → Message → Type 0
IsPresent t m = Contains t.unrouted m ⊎ ((sid : Sid) × (Contains (queue_of sid t) m ⊎ Contains (outstanding_of sid t) m))

-- it is the one that told the daemon of the event, as the daemon keeps it
pub record Tells (daemon : Daemon) (e : Event) (m : Message) : Type 0 where
  pub handle : m.handle ≡ Some e.handle
  pub event : event_on m e.handle ≡ e
  pub own : takes (kinds_of daemon) m.kind ≡ true

-- it told recall of an access to the file
pub record TellsOn (k : FileKey) (m : Message) : Type 0 where
  pub told : Handle
  pub handle : m.handle ≡ Some told
  pub file : told.key ≡ k
  pub own : takes (kinds_of Recall) m.kind ≡ true

-- The message of a token is the one that told of the event that a daemon keeps, and of the file that recall was given.
pub record TellsOne (limits : Numbers) (t : SessionTable) (marks : List Mark) : Type 0 where
  pub kept : (daemon : Daemon) (k : Kept) (m : Message) → Contains (seat_of daemon (shown limits nothing_shown marks)).kept k → IsPresent t m → m.token ≡ k.event.token → Tells daemon k.event m
  pub granted : (u : Token) (k : FileKey) (m : Message) → IsGranted marks u k → IsPresent t m → m.token ≡ u → TellsOn k m

abbrev pub ServedTellsOne : Numbers → Superblock → ℕ → Held → List Mark → List Entry → Type 0
ServedTellsOne limits s base h marks es = entries_of marks ≡ es → Served limits marks → IsRunSeen ⊥ s base h es → ArePacked s (just_opened base h) es → TellsOne limits (state_by s (just_opened base h) (entries_of marks)).sessions marks
