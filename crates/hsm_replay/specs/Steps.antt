-- What a step of a daemon comes to.
use Rattle.std.specs.Prelude.{◌≡◌, ◌⊎◌}
use Rattle.disk_model.specs.declared.device.Disk as disk
use Rattle.media_model.specs.declared.drive.Drive as drive
use Rattle.hsm_types.specs.declared.daemons.Act.{Act}
use Rattle.hsm_types.specs.declared.daemons.Daemon.{Daemon}
use Rattle.hsm_system.specs.Acts as alone
use Rattle.hsm_system.specs.Acts.{MovesOn}
use Rattle.hsm_system.specs.Systems.{System, IsDown}
use Rattle.hsm_system.specs.declared.stops.Stop.{Stop}
use Rattle.hsm_replay.specs.Acts.{Performs, Stops}
use Rattle.hsm_replay.specs.Systems.{Run}

-- its machine had no memory, and stays as it was. What was kept for it is lost
abbrev pub LacksMemory : {D M : Type 0} → Daemon → Run D M → Stop → Run D M → Type 0
LacksMemory daemon old why new = alone.LacksMemory daemon old.system why new.system × (new ≡ record old { system = new.system })

module _ {D M : Type 0} (g : disk.Ghosts D) (h : drive.Ghosts M) (daemon : Daemon) where
  -- it moved on, and its act was performed
  pub record Acts (old new : Run D M) : Type 0 where
    pub act : Act
    pub moved : System D
    pub moves : MovesOn daemon old.system act moved
    pub performs : Performs g h daemon (record old { system = moved }) act new

  -- it moved on, and its act stopped the run
  pub record IsStopped (old : Run D M) (why : Stop) (new : Run D M) : Type 0 where
    pub act : Act
    pub moved : System D
    pub moves : MovesOn daemon old.system act moved
    pub stops : Stops g h daemon (record old { system = moved }) act why new

  -- one act of the daemon; none where it doesn't run
  abbrev pub Steps : Run D M → Run D M → Type 0
  Steps old new = IsDown daemon old.system × (new ≡ old) ⊎ Acts old new

  abbrev pub Halts : Run D M → Stop → Run D M → Type 0
  Halts old why new = LacksMemory daemon old why new ⊎ IsStopped old why new
