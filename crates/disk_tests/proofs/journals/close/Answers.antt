use Rattle.meta_journal.proofs.Opening.{written_closed}
use Rattle.disk_tests.proofs.journals.close.Goals as goal

pub returns-clause-closed : goal.returns-clause-closed
returns-clause-closed g c = λ image may.
    let old = c.in_ok-write_at.ensures.written image (c.sync_all.ensures.given.0 image (c.in_ok-sync_all.ensures.durable image may)) in
    written_closed c.args.gate old.0 image old.2
