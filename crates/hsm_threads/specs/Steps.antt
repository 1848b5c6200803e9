-- What came of a daemon's step under the lock of a run.
use Rattle.std.specs.Prelude.{◌≡◌, ◌⊎◌, Bool, true, false, List, [], ◌∷◌, Option, None, Some, Result, Ok, Err}
use Rattle.disk_model.specs.declared.device.Disk as disk
use Rattle.hsm_types.specs.Daemons.{MayPerform}
use Rattle.hsm_types.specs.declared.daemons.Act.{Act}
use Rattle.hsm_types.specs.declared.daemons.Act.TheVariants.{Dm, Idle}
use Rattle.hsm_types.specs.declared.daemons.Daemon.{Daemon}
use Rattle.hsm_types.specs.declared.daemons.Heard.TheVariants as heard
use Rattle.hsm_types.specs.declared.dm.DmCall.{DmCall}
use Rattle.hsm_types.specs.declared.dm.DmReply.{DmReply}
use Rattle.hsm_types.specs.declared.keys.Sid.{Sid}
use Rattle.deeds.specs.Deeds.{Deed, Gives, Loses}
use Rattle.hsm_system.specs.Acts.{Answers, GivesNone, LacksMemory, MovesOn, StopsFor}
use Rattle.hsm_system.specs.Systems.{System, Awaits, Rests}
use Rattle.hsm_system.specs.declared.stops.Stop.{Stop}
use Rattle.hsm_system.specs.declared.stops.Stop.TheVariants as stop
use Rattle.hsm_replay.specs.Parts.{done_by, resting}
use Rattle.hsm_replay.specs.Stopped.{Broken, Unmade, IsActCut, IsOnDrive}
use Rattle.hsm_threads.specs.declared.steps.Asked.{Asked}
use Rattle.hsm_threads.specs.declared.steps.Asked.TheVariants as asked

-- ---- why a run stops

-- where an event or a step does
abbrev pub stop_of : {T : Type 0} → Result T Stop → Option Stop
stop_of (Ok x) = None
stop_of (Err why) = Some why

-- a fault of the disk stops it by closing the store
abbrev pub closes : Option Stop → Bool
closes (Some stop.Disk) = true
closes why = false

-- want of memory stops it, and a caller's call may be lost
abbrev pub lacks : Option Stop → Bool
lacks (Some stop.Memory) = true
lacks why = false

-- ---- one step

-- what is told of it
abbrev pub told_of : Result Asked Stop → Asked
told_of (Ok came) = came
told_of (Err why) = asked.Nothing

-- where the daemon's call was made
abbrev pub called_by : Result (Unit {0}) Stop → Result Asked Stop
called_by (Ok x) = Ok asked.Called
called_by (Err why) = Err why

-- Its deeds: the daemon gives an act, and a call or a rest is made at once; what is for a drive is left. Where the run stops, a fault of the disk broke its
-- call, or memory ran out for that or for its machine.
abbrev pub IsStepOf : Daemon → Result Asked Stop → List Deed → Type 0
IsStepOf daemon (Ok asked.Called) deeds = (sid : Sid) × (call : DmCall) × (reply : DmReply) × (deeds ≡ done_by daemon (record { asked = Dm sid call; told = heard.Dm reply }))
IsStepOf daemon (Ok (asked.Performs given)) deeds = IsOnDrive given × (deeds ≡ Gives daemon given ∷ [])
IsStepOf daemon (Ok asked.Rests) deeds = deeds ≡ done_by daemon resting
IsStepOf daemon (Ok asked.Nothing) deeds = deeds ≡ []
IsStepOf daemon (Err stop.Disk) deeds = IsActCut daemon Broken deeds
IsStepOf daemon (Err stop.Memory) deeds = IsActCut daemon Unmade deeds ⊎ (deeds ≡ Loses daemon ∷ [])

-- ---- what it leaves

module _ {D : Type 0} (g : disk.Ghosts D) (daemon : Daemon) where
  -- The act that it gave is begun: a call is one event of the store, answered or stopped as that says. What is for a drive, and a rest, leaves the store.
  abbrev pub Begins : Act → Result Asked Stop → System D → System D → Type 0
  Begins given (Ok asked.Called) old new = (sid : Sid) × (call : DmCall) × (given ≡ Dm sid call) × Answers g daemon sid call old new
  Begins given (Ok (asked.Performs act)) old new = (act ≡ given) × Awaits daemon act new × MayPerform act × (new ≡ old)
  Begins given (Ok asked.Rests) old new = (given ≡ Idle) × Rests daemon new × (new.store ≡ old.store)
  Begins given (Ok asked.Nothing) old new = ⊥
  Begins given (Err why) old new = (sid : Sid) × (call : DmCall) × (given ≡ Dm sid call) × StopsFor g daemon sid call why old new

  -- it gives an act, which is begun
  abbrev pub BeginsAct : Result Asked Stop → System D → System D → Type 0
  BeginsAct result old new = (given : Act) × (moved : System D) × MovesOn daemon old given moved × Begins given result moved new

  -- that is the step, unless it gives none, or its machine has no memory
  abbrev pub CameTo : Result Asked Stop → System D → System D → Type 0
  CameTo (Ok asked.Nothing) old new = GivesNone daemon old × (new ≡ old)
  CameTo (Err stop.Memory) old new = BeginsAct (Err stop.Memory) old new ⊎ LacksMemory daemon old stop.Memory new
  CameTo result old new = BeginsAct result old new
