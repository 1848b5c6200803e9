use Rattle.std.proofs.Common.{◌+◌, refl, arith}
use Rattle.meta_journal.proofs.Fields.{stands_at}
use Rattle.meta_journal.proofs.Readings.{one_more_read}
use Rattle.meta_journal.proofs.scanning.front_of.Goals as goal

pub loop-used-preserved : goal.loop-used-preserved
loop-used-preserved c =
    let next = one_more_read c.args.journal.now c.args.at c.args.number c.loop-used.used c.loop-used.last c.loop-used.batches.items c.push.new.self.items _ _ _ c.loop-used.invariant.lead c.loop-used.invariant.last refl
    (stands_at c.args.journal.now c.loop-used.used c.loop-used.last (c.args.at + c.loop-used.used) c.in-Some.frame.number c.in-Some.frame.count c.in-Some.frame.size _ _ _ _ c.in-Some.ensures.read c.in-Some.ensures.room refl refl refl c.in_ok-copy.ensures)
    c.in_ok-push.ensures.items refl in
    record { lead = next.0; last = next.1; room = omega (arith, c.in-Some.ensures.room) }
