-- Which events daemons keep, by deeds.
use Rattle.std.specs.Prelude.{◌≡◌, ◌⊎◌, ℕ, List, [], ◌∷◌, ◌++◌, All, Bool, true, false, Contains}
use Rattle.hsm_types.specs.Daemons.{kinds_of}
use Rattle.hsm_types.specs.Messages.{takes}
use Rattle.hsm_types.specs.Sessions.{outstanding_of}
use Rattle.hsm_types.specs.declared.daemons.Act.TheVariants as act
use Rattle.hsm_types.specs.declared.daemons.Daemon.{Daemon}
use Rattle.hsm_types.specs.declared.daemons.Heard.TheVariants as heard
use Rattle.hsm_types.specs.declared.dm.DmCall.TheVariants.{GetEvents, FindEventMsg}
use Rattle.hsm_types.specs.declared.dm.DmReply.TheVariants.{Packed}
use Rattle.hsm_types.specs.declared.keys.Sid.{Sid}
use Rattle.hsm_types.specs.declared.keys.Token.{Token}
use Rattle.hsm_types.specs.declared.messages.Message.{Message}
use Rattle.hsm_types.specs.declared.stores.Superblock.{Superblock}
use Rattle.plain_model.specs.declared.entries.Action.TheVariants as action
use Rattle.plain_model.specs.declared.entries.Actor.TheVariants.{Session}
use Rattle.plain_model.specs.declared.entries.Answer.TheVariants as answer
use Rattle.plain_model.specs.State.{Held, State, just_opened}
use Rattle.plain_model.specs.Exact.{state_by}
use Rattle.plain_model.specs.Laws.{IsRunSeen}
use Rattle.hsm_policy.specs.Settings.{Numbers}
use Rattle.daemon_session.specs.Seats.{IsSeated}
use Rattle.hsm_core.specs.Packed.{ArePacked}
use Rattle.marked_history.specs.Tokens.{KeepsEvent}
use Rattle.deeds.specs.Deeds.{Deed, Enters, Hears, Loses, entry_of, entries_of}
use Rattle.deeds.specs.Leads.{Served}
use Rattle.deeds.specs.Lives.{Move, Ends, Asks, Misses, life}
use Rattle.hsm_system.specs.Lives.{recalls, migrates}
use Rattle.deed_laws.specs.Knowing.{seat_behind}

-- ---- answers that are lost

-- what was heard last is lost: that comes before an act is given, and before the end
abbrev pub loses_next : List Move → Bool
loses_next [] = false
loses_next (Asks asked ∷ moves) = false
loses_next (Ends ∷ moves) = false
loses_next (Misses ∷ moves) = true
loses_next (move ∷ moves) = loses_next moves

-- ---- tokens of which a daemon doesn't know

-- a line that asked for events was given the token
abbrev pub WentToLine : Deed → List Deed → Token → Type 0
WentToLine x rest t = (sid : Sid) × (most : ℕ) × (room : ℕ) × (bytes : List ℕ) × (tokens : List Token) × (x ≡ Enters (entry_of (Session sid) (action.Dm (GetEvents most room)) (answer.Dm (Packed bytes tokens)))) × Contains tokens t

-- a daemon that asked for events was given it, and its answer is lost in what follows
abbrev pub WasLost : Deed → List Deed → Token → Type 0
WasLost x rest t =
    (by : Daemon) × (sid : Sid) × (most : ℕ) × (room : ℕ) × (bytes : List ℕ) × (tokens : List Token) × (x ≡ Hears by (act.Dm sid (GetEvents most room)) (heard.Dm (Packed bytes tokens))) × (loses_next (life by rest) ≡ true) × Contains tokens t

-- the daemon found the token's message again
abbrev pub FindsAgain : Daemon → Token → Deed → Type 0
FindsAgain daemon t x = (sid : Sid) × (room : ℕ) × (bytes : List ℕ) × (tokens : List Token) × (x ≡ Hears daemon (act.Dm sid (FindEventMsg t room)) (heard.Dm (Packed bytes tokens)))

-- not in these deeds, but by answers that are lost
abbrev pub NeverFinds : Daemon → Token → List Deed → Type 0
NeverFinds daemon t [] = Unit {0}
NeverFinds daemon t (x ∷ deeds) = (FindsAgain daemon t x → loses_next (life daemon deeds) ≡ true) × NeverFinds daemon t deeds

-- The token went so, and the daemon hasn't found its message again since.
pub record HasGone (Went : Deed → List Deed → Token → Type 0) (daemon : Daemon) (deeds : List Deed) (t : Token) : Type 0 where
  pub before : List Deed
  pub deed : Deed
  pub rest : List Deed
  pub parted : deeds ≡ before ++ deed ∷ rest
  pub went : Went deed rest t
  pub never : NeverFinds daemon t rest

abbrev pub IsTaken : Daemon → List Deed → Token → Type 0
IsTaken = HasGone WentToLine

abbrev pub IsLost : Daemon → List Deed → Token → Type 0
IsLost = HasGone WasLost

-- ---- the law

-- Of its kinds a daemon with a session keeps each event that is outstanding to that session, but for those that lines took, and those of answers that are lost.
abbrev pub KeepsAll : Daemon → Numbers → Superblock → State → List Deed → Type 0
KeepsAll daemon limits s st deeds = (sid : Sid) (m : Message) → IsSeated (seat_behind limits daemon deeds) sid → Contains (outstanding_of sid (state_by s st (entries_of deeds)).sessions) m → takes (kinds_of daemon) m.kind ≡ true
    → KeepsEvent (seat_behind limits daemon deeds).kept m.token ⊎ (IsTaken daemon deeds m.token ⊎ IsLost daemon deeds m.token)

abbrev pub ServedKeepsAll : Daemon → Numbers → Superblock → ℕ → Held → List Deed → Type 0
ServedKeepsAll daemon limits s base h deeds =
    Served recalls (migrates limits) deeds → IsRunSeen ⊥ s base h (entries_of deeds) → ArePacked s (just_opened base h) (entries_of deeds) → KeepsAll daemon limits s (just_opened base h) deeds

-- ---- where nothing is lost

abbrev pub IsNoLoss : Deed → Type 0
IsNoLoss (Loses daemon) = ⊥
IsNoLoss x = Unit {0}

-- then no answer is
abbrev pub LosesNoAnswer : Daemon → List Deed → Token → Type 0
LosesNoAnswer daemon deeds t = All IsNoLoss deeds → IsLost daemon deeds t → ⊥
