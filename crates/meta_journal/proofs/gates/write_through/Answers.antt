use Rattle.meta_journal.proofs.gates.write_through.Goals as goal

pub returns-clause-stored : goal.returns-clause-stored
returns-clause-stored g c = λ image may. c.in_ok-write_at.ensures.written image (c.sync_all.ensures.given.0 image (c.in_ok-sync_all.ensures.durable image may))
