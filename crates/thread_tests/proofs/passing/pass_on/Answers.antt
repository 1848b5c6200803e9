use denote.Exit.{no}
use denote.Param.Send.{param_send, arg_send, shr_send}
use Rattle.std.proofs.Crossing.{send as heap_send}
use Rattle.disk_model.proofs.sure.SureDisk.TheSendSync.{the_send as disk_send}
use Rattle.hsm_threads.proofs.Sending.{shared_sync}
use Rattle.call_seats.proofs.passes.Pass.TheSendSync.{the_send as pass_send}
use Rattle.thread_tests.proofs.Sending.{four_send}
use Rattle.thread_tests.proofs.passing.pass_on.Goals as goal

pub join-one-requires-send-F : goal.join-one-requires-send-F
join-one-requires-send-F g c κs within =
    param_send 1 _ (arg_send _ no _ (four_send _ _ _ _ _
    (shr_send _ _ _ c.type_bounds.sync-R)
    heap_send
    (shr_send _ _ _ (shared_sync _ _ _ _ disk_send c.type_bounds.send-N))
    pass_send))
