-- What lines are run on.
use Rattle.std.specs.Prelude.{◌≡◌, false, [], None}
use Rattle.hsm_core.specs.Store.{Store}
use Rattle.hsm_replay.specs.Systems.{Run}

-- a store that was just opened
pub record IsOpenedAnew {D : Type 0} (s : Store D) : Type 0 where
  pub opened : s.opened ≡ s.files
  pub history : s.history ≡ []
  pub working : s.files.failed ≡ false

-- such a store, on which no daemon runs
pub record IsReady {D M : Type 0} (s : Run D M) : Type 0 where
  pub store : IsOpenedAnew s.system.store
  pub recall : s.system.recall ≡ None
  pub migrate : s.system.migrate ≡ None
