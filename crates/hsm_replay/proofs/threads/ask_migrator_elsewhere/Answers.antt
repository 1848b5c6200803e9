use denote.Param.Send.{sendable}
use Rattle.std.proofs.Crossing.{crosses}
use Rattle.hsm_system.proofs.Sending.{migrator_send}
use Rattle.hsm_replay.proofs.threads.ask_migrator_elsewhere.Goals as goal

pub join-act-requires-send-F : goal.join-act-requires-send-F
join-act-requires-send-F g c κs within = search (sendable, crosses, migrator_send) depth 20
