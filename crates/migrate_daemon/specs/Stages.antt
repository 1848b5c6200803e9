-- What the machine waits for where it is.
use Rattle.std.specs.Prelude.{◌≡◌, ◌<◌, Bool, false, None}
use Rattle.hsm_types.specs.Limits.{buffer_bytes}
use Rattle.hsm_types.specs.declared.daemons.Act.{Act}
use Rattle.hsm_types.specs.declared.daemons.Act.TheVariants.{Dm, Idle}
use Rattle.hsm_types.specs.declared.daemons.Heard.{Heard}
use Rattle.hsm_types.specs.declared.dm.DmCall.TheVariants.{CreateSession, GetAllSessions, QuerySession, SetDisp, GetEvents, GetAllTokens}
use Rattle.hsm_types.specs.declared.dm.DmCall.TheVariants.{FindEventMsg, Respond, GetSpace, GetTable}
use Rattle.hsm_types.specs.declared.dm.Response.{Response}
use Rattle.hsm_types.specs.declared.keys.Sid.{Sid}
use Rattle.hsm_policy.specs.declared.picking.Picked.{Picked}
use Rattle.daemon_session.specs.Seats.{Seat, first_id, IsSeated}
use Rattle.migrate_daemon.specs.declared.stages.Stage.{Stage}
use Rattle.migrate_daemon.specs.declared.stages.Stage.TheVariants.{Outside, Entering, Resting, Measuring, Asking, Looking, Working, Copying, Answering}
use Rattle.migrate_daemon.specs.declared.stages.Turn.{Turn}
use Rattle.migrate_daemon.specs.declared.stages.Work.{Work}
use Rattle.migrate_daemon.specs.declared.stages.Work.TheVariants.{Covering, Setting, Reading, Sealing, Punching}
use Rattle.migrate_daemon.specs.Hearing.{is_gone}
use Rattle.migrate_daemon.specs.Passes.{Pass, IsOver, asks_regions, sets_regions, reads, seals, punches, IsCopy}
use Rattle.migrate_daemon.specs.Machine.{IsFree, IsAt, NoneServed}
use Rattle.migrate_daemon.specs.MachineStates.{Standing}

abbrev pub asked_for : Sid → Picked → Work → Act
asked_for sid p Covering = asks_regions sid p
asked_for sid p Setting = sets_regions sid p
asked_for sid p Reading = reads sid p
asked_for sid p (Sealing entry) = seals sid p entry
asked_for sid p Punching = punches sid p

-- it makes that call of the pass
abbrev pub works : Sid → Picked → Work → Turn
works sid p work = record { stage = Working p work; act = asked_for sid p work }

abbrev pub begins : Turn
begins = record { stage = Entering; act = Dm first_id GetAllSessions }

abbrev pub measures : Sid → Turn
measures sid = record { stage = Measuring sid; act = Dm sid GetSpace }

abbrev pub looks : Sid → Turn
looks sid = record { stage = Looking sid; act = Dm sid GetTable }

abbrev pub rests : Sid → Turn
rests sid = record { stage = Resting sid; act = Idle }

-- a segment that was sealed is neither read nor sealed
abbrev pub Suits : Picked → Work → Type 0
Suits p Reading = p.sealed ≡ false
Suits p (Sealing entry) = p.sealed ≡ false
Suits p work = Unit {0}

-- the pass stands at the segment, and there is a volume for it
pub record Holds (s : Standing) (pass : Pass) (p : Picked) : Type 0 where
  pub at : IsAt s.known pass p
  pub room : pass.volume < s.limits.volumes

-- the calls on the way to a session
abbrev pub IsEntry : Act → Type 0
IsEntry (Dm sid GetAllSessions) = Unit {0}
IsEntry (Dm sid (QuerySession target)) = Unit {0}
IsEntry (Dm sid (CreateSession old info)) = Unit {0}
IsEntry (Dm sid (SetDisp kinds)) = Unit {0}
IsEntry (Dm sid GetAllTokens) = Unit {0}
IsEntry (Dm sid (FindEventMsg t room)) = Unit {0}
IsEntry act = ⊥

-- while it asks for a session it has none
abbrev pub HasNone : Act → Seat → Type 0
HasNone (Dm sid (CreateSession old info)) seat = seat.sid ≡ None
HasNone act seat = Unit {0}

-- it is on its way to a session
pub record IsEntering (s : Standing) (pass : Pass) : Type 0 where
  pub entry : IsEntry s.way
  pub none : HasNone s.way s.known.seat
  pub space : s.known.space ≡ None
  pub punched : s.known.punched ≡ false
  pub served : NoneServed s.known.seat.kept
  pub over : IsOver pass

-- what is so where it waits there, and has asked this
abbrev pub Stands : Stage → Standing → Pass → Act → Type 0
Stands Outside s pass asked = (asked ≡ Idle) × (s.known.seat.sid ≡ None) × IsOver pass
Stands Entering s pass asked = (asked ≡ s.way) × IsEntering s pass
Stands (Resting sid) s pass asked = (asked ≡ Idle) × IsFree s.known pass sid
Stands (Measuring sid) s pass asked = (asked ≡ Dm sid GetSpace) × IsFree s.known pass sid
Stands (Asking sid) s pass asked = (asked ≡ Dm sid (GetEvents 0 buffer_bytes)) × IsFree s.known pass sid
Stands (Looking sid) s pass asked = (asked ≡ Dm sid GetTable) × IsFree s.known pass sid
Stands (Working p work) s pass asked = (asked ≡ asked_for pass.sid p work) × Holds s pass p × Suits p work
Stands (Copying p) s pass asked = IsCopy p pass.volume asked × Holds s pass p × (p.sealed ≡ false)
Stands (Answering sid t) s pass asked = ((response : Response) × (asked ≡ Dm sid (Respond t response))) × IsSeated s.known.seat sid × IsOver pass

-- it is told that its session is gone, of a call
abbrev pub is_lost : Stage → Heard → Bool
is_lost Outside told = false
is_lost (Resting sid) told = false
is_lost (Copying p) told = false
is_lost stage told = is_gone told
