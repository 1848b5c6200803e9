use denote.Exit.{no}
use denote.Param.Send.{param_send, arg_send, shr_send}
use Rattle.std.proofs.Crossing.{send as heap_send}
use Rattle.disk_model.proofs.sure.SureDisk.TheSendSync.{the_send as disk_send}
use Rattle.hsm_threads.proofs.Sending.{mutex_sync, run_send}
use Rattle.thread_tests.proofs.Sending.{three_send}
use Rattle.thread_tests.proofs.running.run_named.Goals as goal

pub join-requires-send-F : goal.join-requires-send-F
join-requires-send-F g c κs within =
    param_send 1 _ (arg_send _ no _ (three_send _ _ _ _
    (shr_send _ _ _ c.type_bounds.sync-R)
    heap_send
    (shr_send _ _ _ (mutex_sync _ (run_send _ _ _ g.N.Named disk_send c.type_bounds.send-N)))))
