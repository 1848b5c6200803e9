-- When answers that name a fault of a medium are caused, by deeds.
use Rattle.std.specs.Prelude.{ℕ, List}
use Rattle.hsm_types.specs.declared.stores.Superblock.{Superblock}
use Rattle.plain_model.specs.State.{Held, just_opened}
use Rattle.plain_model.specs.Laws.{IsRunSeen}
use Rattle.hsm_policy.specs.Settings.{Numbers}
use Rattle.hsm_core.specs.Packed.{ArePacked}
use Rattle.marked_history.specs.Caused.{Caused}
use Rattle.deeds.specs.Deeds.{Deed, entries_of}
use Rattle.deeds.specs.Leads.{Served}
use Rattle.hsm_system.specs.Lives.{recalls, migrates}

-- Each is, in the history of each run that is served by these deeds, with all its buffers packed.
abbrev pub ServedIsCaused : Numbers → Superblock → ℕ → Held → List Deed → Type 0
ServedIsCaused limits s base h deeds =
    Served recalls (migrates limits) deeds → IsRunSeen ⊥ s base h (entries_of deeds) → ArePacked s (just_opened base h) (entries_of deeds) → Caused s (just_opened base h) (entries_of deeds)
