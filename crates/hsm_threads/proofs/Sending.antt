-- What lies under a lock may go to another thread where its disk may.
use denote.RattleType.{RattleType}
use denote.Hole.{as_row}
use denote.Param.Send.{IsSend, IsSync, sendable, view_send}
use denote.Param.SendFields.{declared_send, declared_sync}
use denote.Struct.Field.{u32-field}
use Rattle.std.specs.contracts.marker.PhantomData as phantom
use Rattle.std.specs.contracts.option.Option as option
use Rattle.std.specs.contracts.sync.Condvar as condvar
use Rattle.std.specs.contracts.sync.Mutex as mutex
use Rattle.std.proofs.Crossing.{crosses}
use Rattle.disk_model.specs.declared.device.Disk as disk
use Rattle.call_lists.proofs.lists.CallLists.TheSendSync.{the_send as lists_send}
use Rattle.call_seats.proofs.desk.Desk.TheSendSync.{the_sync as desk_sync}
use Rattle.call_seats.proofs.passes.Pen.TheSendSync.{the_send as pen_send}
use Rattle.hsm_core.proofs.Sending.{hsm_send}
use Rattle.hsm_system.proofs.Sending.{system_send}
use Rattle.hsm_system.proofs.stops.Stop.TheSendSync.{the_send as stop_send}
use Rattle.hsm_threads.specs.declared.named.Named as named
use Rattle.hsm_threads.specs.contracts.held.Held as held
use Rattle.hsm_threads.specs.contracts.held.Held.TheInside as held_inside
use Rattle.hsm_threads.specs.contracts.run.Run as run
use Rattle.hsm_threads.specs.contracts.run.Run.TheInside as run_inside
use Rattle.hsm_threads.specs.contracts.shared.Shared as shared

-- ---- what std's types ask of what is in them

phantom_send : (R : RattleType) → IsSend R → IsSend (as_row (phantom.the_field R))
phantom_send R s = search sendable depth 20

option_send : (R : RattleType) → IsSend R → IsSend (as_row (option.the_field R))
option_send R s = search sendable depth 20

pub mutex_sync : (R : RattleType) → IsSend R → IsSync (mutex.the_row R)
mutex_sync R s = search crosses depth 4

condvar_sync : IsSync (as_row condvar.the_field)
condvar_sync = search (sendable, crosses) depth 20

u32_sync : IsSync (as_row u32-field)
u32_sync = search sendable depth 20

-- ---- the values under a lock, by their fields

module _ (D N : RattleType) (g : disk.Ghosts D.Denot) (n : named.Ghosts N.Denot D.Denot) (s : IsSend D) (t : IsSend N) where
  pub held_send : IsSend (held.the_row D N g n)
  held_send = view_send _ _ _ _ _ (declared_send (held_inside.the_type D N g n) (hsm_send D g s, (pen_send, (phantom_send N t, tt))))

  pub shared_sync : IsSync (shared.the_row D N g n)
  shared_sync = declared_sync (shared.the_type D N g n) (mutex_sync _ held_send, (desk_sync, (condvar_sync, (u32_sync, tt))))

  pub run_send : IsSend (run.the_row D N g n)
  run_send = view_send _ _ _ _ _ (declared_send (run_inside.the_type D N g n) (system_send D g s, (lists_send, (option_send _ stop_send, (phantom_send N t, tt)))))
