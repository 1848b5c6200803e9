-- Whose message a token is, by deeds: the one that told of the event that a daemon keeps, and of the file that recall was given.
use Rattle.std.specs.Prelude.{◌≡◌, ℕ, List, ◌∷◌, ◌++◌, Contains}
use Rattle.hsm_types.specs.Sessions.{SessionTable}
use Rattle.hsm_types.specs.declared.daemons.Act.TheVariants.{Dm}
use Rattle.hsm_types.specs.declared.daemons.Daemon.{Daemon}
use Rattle.hsm_types.specs.declared.daemons.Daemon.TheVariants.{Recall}
use Rattle.hsm_types.specs.declared.daemons.Heard.TheVariants as heard
use Rattle.hsm_types.specs.declared.dm.DmCall.TheVariants.{RequestRight}
use Rattle.hsm_types.specs.declared.dm.DmReply.TheVariants.{Done}
use Rattle.hsm_types.specs.declared.dm.Right.TheVariants.{Excl}
use Rattle.hsm_types.specs.declared.keys.FileKey.{FileKey}
use Rattle.hsm_types.specs.declared.keys.Handle.{Handle}
use Rattle.hsm_types.specs.declared.keys.Sid.{Sid}
use Rattle.hsm_types.specs.declared.keys.Token.{Token}
use Rattle.hsm_types.specs.declared.messages.Message.{Message}
use Rattle.hsm_types.specs.declared.stores.Superblock.{Superblock}
use Rattle.plain_model.specs.State.{Held, just_opened}
use Rattle.plain_model.specs.Exact.{state_by}
use Rattle.plain_model.specs.Laws.{IsRunSeen}
use Rattle.hsm_policy.specs.Settings.{Numbers}
use Rattle.daemon_session.specs.declared.events.Kept.{Kept}
use Rattle.hsm_core.specs.Packed.{ArePacked}
use Rattle.marked_history.specs.Tokens.{IsPresent, Tells, TellsOn}
use Rattle.deeds.specs.Deeds.{Deed, Hears, entries_of}
use Rattle.deeds.specs.Leads.{Served}
use Rattle.hsm_system.specs.Lives.{recalls, migrates}
use Rattle.deed_laws.specs.Knowing.{seat_behind}

-- recall has asked for the file with the token, and got it
pub record IsGranted (deeds : List Deed) (t : Token) (k : FileKey) : Type 0 where
  pub before : List Deed
  pub sid : Sid
  pub handle : Handle
  pub rest : List Deed
  pub parted : deeds ≡ before ++ Hears Recall (Dm sid (RequestRight t handle Excl)) (heard.Dm Done) ∷ rest
  pub file : handle.key ≡ k

-- The message of a token is the one that told of the event that a daemon keeps, and of the file that recall was given.
pub record TellsOne (limits : Numbers) (t : SessionTable) (deeds : List Deed) : Type 0 where
  pub kept : (daemon : Daemon) (k : Kept) (m : Message) → Contains (seat_behind limits daemon deeds).kept k → IsPresent t m → m.token ≡ k.event.token → Tells daemon k.event m
  pub granted : (u : Token) (k : FileKey) (m : Message) → IsGranted deeds u k → IsPresent t m → m.token ≡ u → TellsOn k m

-- Of each run that is served by these deeds, with all its buffers packed. So it is behind each of them.
abbrev pub ServedTellsOne : Numbers → Superblock → ℕ → Held → List Deed → Type 0
ServedTellsOne limits s base h deeds =
    Served recalls (migrates limits) deeds → IsRunSeen ⊥ s base h (entries_of deeds) → ArePacked s (just_opened base h) (entries_of deeds) → TellsOne limits (state_by s (just_opened base h) (entries_of deeds)).sessions deeds
