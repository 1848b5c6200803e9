-- What the settles of a script have come to, over the marked history of its lines.
use Rattle.std.specs.Prelude.{◌≡◌, ◌≢◌, ◌⊎◌, ℕ, List, [], ◌∷◌, ◌++◌, true, false, None, Some, IfSome, Contains}
use Rattle.std.specs.List.{AllByRecursion}
use Rattle.hsm_types.specs.Callers.{IsCallerNumber}
use Rattle.hsm_types.specs.Limits.{buffer_bytes}
use Rattle.hsm_types.specs.Sessions.{lives, queue_of}
use Rattle.hsm_types.specs.declared.daemons.Daemon.{Daemon}
use Rattle.hsm_types.specs.declared.daemons.Daemon.TheVariants.{Recall, Migrate}
use Rattle.hsm_types.specs.declared.dm.DmCall.TheVariants.{CreateSession, GetEvents, GetTable}
use Rattle.hsm_types.specs.declared.dm.DmRefusal.TheVariants.{Again, TooMany}
use Rattle.hsm_types.specs.declared.dm.DmReply.TheVariants.{Refused, Table as TheTable}
use Rattle.hsm_types.specs.declared.keys.Sid.{Sid}
use Rattle.hsm_types.specs.declared.stores.Superblock.{Superblock}
use Rattle.hsm_types.specs.declared.tables.Table.{Table}
use Rattle.plain_model.specs.declared.entries.Actor.TheVariants.{Session}
use Rattle.plain_model.specs.Exact.{state_by}
use Rattle.plain_model.specs.Laws.{IsRunSeen}
use Rattle.plain_model.specs.State.{Held, State, just_opened, used}
use Rattle.hsm_core.specs.Packed.{ArePacked}
use Rattle.hsm_policy.specs.Settings.{Numbers}
use Rattle.daemon_session.specs.Seats.{first_id, IsSeated}
use Rattle.migrate_daemon.specs.Shares.{is_above}
use Rattle.script_text.specs.declared.lines.Line.{Line}
use Rattle.script_text.specs.declared.lines.Line.TheVariants.{Start, Kill, Settle}
use Rattle.marked_history.specs.Follows.{IsPartOf}
use Rattle.marked_history.specs.Marks.{Mark, entries_of, made}
use Rattle.marked_history.specs.Served.{Shown, nothing_shown, shown, Served}
use Rattle.marked_history.specs.Tokens.{seat_of}
use Rattle.marked_history.specs.Waiting.{Running, runs, AllMayWait}

-- ---- which daemons run

abbrev pub none_run : Running
none_run = record { recall = false; migrate = false }

-- behind a line
abbrev pub running_by : Line → Running → Running
running_by (Start Recall) r = record r { recall = true }
running_by (Start Migrate) r = record r { migrate = true }
running_by (Kill Recall) r = record r { recall = false }
running_by (Kill Migrate) r = record r { migrate = false }
running_by line r = r

-- behind lines
abbrev pub running_behind : List Line → Running → Running
running_behind [] r = r
running_behind (line ∷ lines) r = running_behind lines (running_by line r)

-- made by a daemon that runs, or by none
abbrev pub IsByRunning : Running → Mark → Type 0
IsByRunning r m = IfSome m.by (λ daemon. runs daemon r ≡ true)

-- each call of a daemon is made by one that runs
abbrev pub AreByRunning : Running → List Mark → Type 0
AreByRunning r marks = AllByRecursion (IsByRunning r) marks

-- ---- what daemons have come to

-- Its last call asked for events, and there are no more.
pub record IsToldNoMore (daemon : Daemon) (sid : Sid) (part : List Mark) : Type 0 where
  pub first : List Mark
  pub since : List Mark
  pub parted : part ≡ first ++ made daemon sid (GetEvents 0 buffer_bytes) (Refused Again) ∷ since
  pub last : AllByRecursion (λ (m : Mark). m.by ≢ Some daemon) since

-- The daemon has a session in which it set its kinds. The session lives, no message is left in its queue, and it was told at last that there are no more
-- events.
pub record IsAtWork (daemon : Daemon) (k : Shown) (st : State) (part : List Mark) : Type 0 where
  pub sid : Sid
  pub seated : IsSeated (seat_of daemon k) sid
  pub live : lives sid st.sessions ≡ true
  pub empty : queue_of sid st.sessions ≡ []
  pub told : IsToldNoMore daemon sid part

-- Its last call was refused, as too many sessions live.
pub record IsTurnedAway (daemon : Daemon) (part : List Mark) : Type 0 where
  pub first : List Mark
  pub old : Sid
  pub info : List ℕ
  pub count : ℕ
  pub since : List Mark
  pub parted : part ≡ first ++ made daemon first_id (CreateSession old info) (Refused (TooMany count)) ∷ since
  pub last : AllByRecursion (λ (m : Mark). m.by ≢ Some daemon) since

-- a pass of migration began
abbrev pub BeginsPass : List Mark → Type 0
BeginsPass part = (sid : Sid) × (table : Table) × Contains part (made Migrate sid GetTable (TheTable table))

-- more of the store's blocks are used than `high` allows
abbrev pub IsCrowded : Numbers → Superblock → State → Type 0
IsCrowded limits s st = is_above limits.high (Some (record { used = used st.held.files; total = s.geometry.blocks })) ≡ true

module _ (limits : Numbers) (s : Superblock) (first : State) where
  -- ---- behind a settle

  -- These daemons run, and the last marks are those of a settle. Each access that waits behind it is one that may. Each daemon has made a call in the settle,
  -- and is at work or was turned away. Where migration has a session and the store is crowded still, a pass began in the settle.
  pub record HasSettled (r : Running) (before part : List Mark) : Type 0 where
    pub waits : AllMayWait r (shown limits nothing_shown (before ++ part)) (before ++ part) s (state_by s first (entries_of (before ++ part)))
    pub works : (daemon : Daemon) → runs daemon r ≡ true → IsAtWork daemon (shown limits nothing_shown (before ++ part)) (state_by s first (entries_of (before ++ part))) part ⊎ IsTurnedAway daemon part
    pub spares : r.migrate ≡ true → (sid : Sid) → IsSeated (shown limits nothing_shown (before ++ part)).migrate.seat sid → IsCrowded limits s (state_by s first (entries_of (before ++ part))) → BeginsPass part

  -- so it is where the line settles
  abbrev pub LeavesSettled : Line → Running → (before part : List Mark) → Type 0
  LeavesSettled Settle r before part = HasSettled r before part
  LeavesSettled line r before part = Unit {0}

  -- ---- over all lines

  -- The marks behind those before fall into parts, one for each line, in order. Calls are made by daemons that run, and each settle has come to its end so.
  abbrev pub EachSettles : (running : Running) → (before : List Mark) → List Line → List Mark → Type 0
  EachSettles r before [] marks = marks ≡ []
  EachSettles r before (line ∷ lines) marks = (part : List Mark) × ((rest : List Mark) × ((marks ≡ part ++ rest) × IsPartOf line part × AreByRunning (running_by line r) part × LeavesSettled line (running_by line r) before part
      × EachSettles (running_by line r) (before ++ part) lines rest))

-- ---- where no line has a session

abbrev pub both_run : Running
both_run = record { recall = true; migrate = true }

-- an entry of a session is a call that a daemon made
abbrev pub IsCalledByDaemon : Mark → Type 0
IsCalledByDaemon m = (sid : Sid) → m.entry.actor ≡ Session sid → (daemon : Daemon) × (m.by ≡ Some daemon)

abbrev pub NoneWaits : State → Type 0
NoneWaits st = (c : ℕ) → IsCallerNumber c → st.ledger.pending c ≡ None

-- Where each call is a daemon's own, both daemons run, and the store has settled, no access waits.
abbrev pub SettledNoneWaits : Numbers → Superblock → ℕ → Held → (before part : List Mark) → Type 0
SettledNoneWaits limits s base h before part =
    Served limits (before ++ part) → IsRunSeen ⊥ s base h (entries_of (before ++ part)) → ArePacked s (just_opened base h) (entries_of (before ++ part)) → AllByRecursion IsCalledByDaemon (before ++ part)
    → HasSettled limits s (just_opened base h) both_run before part → NoneWaits (state_by s (just_opened base h) (entries_of (before ++ part)))
