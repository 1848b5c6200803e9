-- Callers may be sent to another thread.
use denote.RattleType.{RattleType}
use denote.Ref.{NamedLft}
use denote.Param.Send.{IsSend, sendable}
use Rattle.std.proofs.Crossing.{crosses}
use Rattle.disk_model.specs.contracts.sure.SureDisk as sure
use Rattle.disk_model.proofs.sure.SureDisk.TheSendSync.{the_send as disk_send}
use Rattle.call_seats.proofs.passes.Pass.TheSendSync.{the_send as pass_send}
use Rattle.hsm_core.proofs.Sending.{hsm_send}
use Rattle.hsm_threads.specs.declared.named.Named as named
use Rattle.hsm_threads.proofs.Sending.{mutex_sync, shared_sync}
use Rattle.pass_bench.specs.contracts.forms.Locked as locked
use Rattle.pass_bench.specs.contracts.sharing.Seats as seats

pub locked_send : (κ : NamedLft) → IsSend (locked.the_row κ)
locked_send κ = search (sendable, mutex_sync, hsm_send, disk_send) depth 20

pub seats_send : (κ : NamedLft) (N : RattleType) (n : named.Ghosts N.Denot sure.the_row.Denot) → IsSend N → IsSend (seats.the_row κ N n)
seats_send κ N n t = search (sendable, crosses, shared_sync, disk_send, pass_send) depth 40
