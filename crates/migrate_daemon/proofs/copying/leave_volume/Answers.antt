use Rattle.std.proofs.Common.{arith, ap}
use Rattle.migrate_daemon.specs.Passes.{Pass}
use Rattle.migrate_daemon.proofs.InPass.{turns_next_volume, turns_last_volume}
use Rattle.migrate_daemon.proofs.copying.leave_volume.Goals as goal

pub returns-then-volume-volumes : goal.returns-then-volume-volumes
returns-then-volume-volumes c = λ bytes.
    let left = ap (λ (p : Pass). p.volume) c.leave_volume.ensures in
    rw c.read.ensures (turns_next_volume c.args.knowledge.now c.args.pass.now c.args.pick bytes c.args.why _ c.requires.holds c.requires.suits c.requires.full (omega (arith, left)) c.leave_volume.ensures)

pub returns-else-volume-volumes : goal.returns-else-volume-volumes
returns-else-volume-volumes c = λ bytes.
    let left = ap (λ (p : Pass). p.volume) c.leave_volume.ensures in
    let room = c.requires.holds.room in
    turns_last_volume c.args.knowledge.now c.args.pass.now c.args.pick bytes c.args.why _ _ c.requires.holds c.requires.full (omega (arith, left, room)) (rw c.leave_volume.ensures at c.end.ensures.new) c.end.ensures.gives
