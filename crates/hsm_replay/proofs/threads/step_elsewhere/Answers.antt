use denote.Param.Send.{sendable}
use Rattle.std.proofs.Crossing.{crosses}
use Rattle.hsm_types.proofs.daemons.Daemon.TheSendSync.{the_field_send as daemon_send}
use Rattle.hsm_replay.proofs.Sending.{replay_send}
use Rattle.hsm_replay.proofs.threads.step_elsewhere.Goals as goal

pub join-stepped-requires-send-F : goal.join-stepped-requires-send-F
join-stepped-requires-send-F g c κs within = search (sendable, crosses, daemon_send, replay_send) depth 20
