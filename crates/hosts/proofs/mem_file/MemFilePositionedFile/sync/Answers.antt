use Rattle.hosts.proofs.mem_file.MemFilePositionedFile.sync.Goals as goal

pub returns-clause-given : goal.returns-clause-given
returns-clause-given c = rw (← c.self.view_is) c.sync.ensures.given
