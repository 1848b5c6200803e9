-- A store with its daemons and its drives.
use Rattle.std.specs.Prelude.{◌≡◌, ℕ, ◌%◌, List, length, is_some}
use Rattle.hsm_types.specs.declared.daemons.Daemon.{Daemon}
use Rattle.hsm_types.specs.declared.daemons.Daemon.TheVariants.{Recall, Migrate}
use Rattle.hsm_types.specs.declared.daemons.Heard.{Heard}
use Rattle.hsm_types.specs.declared.daemons.Heard.TheVariants.{Nothing}
use Rattle.marked_history.specs.Waiting.{Running}
use Rattle.hsm_system.specs.Systems as alone
use Rattle.hsm_system.specs.Systems.{System, Waits}
use Rattle.hsm_system.specs.declared.daemons.Next.{Next}
use Rattle.hsm_system.specs.declared.daemons.Next.TheVariants as next

pub record Run (D M : Type 0) : Type 0 where
  -- the store with its daemons, and the settings of the run
  pub system : System D
  pub drives : List M

-- there are as many drives as the settings say
abbrev pub HasDrives : {D M : Type 0} → Run D M → Type 0
HasDrives s = length s.drives ≡ s.system.limits.drives

-- between two lines no daemon waits for what comes of an act
pub record IsRun {D M : Type 0} (s : Run D M) : Type 0 where
  pub drives : HasDrives s
  pub recall : Waits Recall s.system → ⊥
  pub migrate : Waits Migrate s.system → ⊥

-- the number of the drive that has the volume
abbrev pub drive_of : {M : Type 0} → ℕ → List M → ℕ
drive_of volume drives = volume % length drives

-- which daemons run
abbrev pub running : {D M : Type 0} → Run D M → Running
running s = record { recall = is_some s.system.recall; migrate = is_some s.system.migrate }

-- what a daemon hears next, nothing while it waits
abbrev pub told_next : Next → Heard
told_next (next.Hears told) = told
told_next (next.Waits awaited) = Nothing

-- ---- of its system alone

-- the daemon runs. Where it ran before it goes on
abbrev pub started : {D M : Type 0} → Daemon → Run D M → Run D M
started daemon s = record s { system = alone.started daemon s.system }

-- it doesn't run
abbrev pub killed : {D M : Type 0} → Daemon → Run D M → Run D M
killed daemon s = record s { system = alone.killed daemon s.system }

-- migration may begin one pass by `high`, by what it is told of the space from here on
abbrev pub refreshed : {D M : Type 0} → Run D M → Run D M
refreshed s = record s { system = alone.refreshed s.system }
