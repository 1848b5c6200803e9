-- A system may be sent to another thread where its disk may, and the machine of each daemon always.
use denote.RattleType.{RattleType}
use denote.Param.Send.{IsSend, sendable}
use Rattle.std.proofs.Crossing.{crosses}
use Rattle.disk_model.specs.declared.device.Disk as disk
use Rattle.hsm_types.proofs.daemons.Heard.TheSendSync.{the_field_send as heard_send}
use Rattle.hsm_policy.proofs.picking.Picked.TheSendSync.{the_field_send as picked_send}
use Rattle.hsm_policy.proofs.settings.Settings.TheSendSync.{the_send as settings_send}
use Rattle.daemon_session.proofs.events.Event.TheSendSync.{the_field_send as event_send}
use Rattle.daemon_session.proofs.members.Member.TheSendSync.{the_send as member_send}
use Rattle.recall_daemon.proofs.away.Away.TheSendSync.{the_field_send as away_send}
use Rattle.recall_daemon.specs.contracts.recaller.Recaller as recaller
use Rattle.migrate_daemon.proofs.skips.Skip.TheSendSync.{the_field_send as skip_send}
use Rattle.migrate_daemon.specs.contracts.machine.Migrator as migrator
use Rattle.hsm_core.proofs.Sending.{hsm_send}
use Rattle.hsm_system.specs.contracts.system.System as system
use Rattle.hsm_system.proofs.daemons.Next.TheSendSync.{the_field_send as next_send}

recaller_send : IsSend recaller.the_row
recaller_send = search (sendable, crosses, member_send, event_send, away_send) depth 40 fits 20000

pub migrator_send : IsSend migrator.the_row
migrator_send = search (sendable, crosses, member_send, settings_send, picked_send, skip_send, heard_send) depth 40 fits 20000

pub system_send : (D : RattleType) (g : disk.Ghosts D.Denot) → IsSend D → IsSend (system.the_row D g)
system_send D g s = search (sendable, crosses, hsm_send, recaller_send, migrator_send, next_send, settings_send) depth 40
