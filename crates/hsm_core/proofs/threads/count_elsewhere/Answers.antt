use denote.Param.Send.{sendable}
use Rattle.std.proofs.Crossing.{crosses}
use Rattle.hsm_core.proofs.Sending.{hsm_send}
use Rattle.hsm_core.proofs.threads.count_elsewhere.Goals as goal

pub join-counted-requires-send-F : goal.join-counted-requires-send-F
join-counted-requires-send-F g c κs within = search (sendable, crosses, hsm_send) depth 20
