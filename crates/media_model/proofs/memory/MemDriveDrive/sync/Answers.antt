use Rattle.media_model.proofs.memory.MemDriveDrive.sync.Goals as goal

pub returns-clause-same : goal.returns-clause-same
returns-clause-same c = rw (← c.self.view_is) c.sync.ensures.same
