-- A replay may be sent to another thread where its disk and its drives may.
use denote.RattleType.{RattleType}
use denote.Param.Send.{IsSend, sendable}
use Rattle.std.proofs.Crossing.{crosses}
use Rattle.disk_model.specs.declared.device.Disk as disk
use Rattle.media_model.specs.declared.drive.Drive as drive
use Rattle.hsm_system.proofs.Sending.{system_send}
use Rattle.hsm_replay.specs.contracts.replay.Replay as replay

pub replay_send : (D M : RattleType) (g : disk.Ghosts D.Denot) (h : drive.Ghosts M.Denot) → IsSend D → IsSend M → IsSend (replay.the_row D M g h)
replay_send D M g h s t = search (sendable, crosses, system_send) depth 40
