use Rattle.disk_tests.proofs.journals.begin_anew.Goals as goal

pub restart-requires-clause-closed : goal.restart-requires-clause-closed
restart-requires-clause-closed g c = c.in-Ok.ensures.closed
