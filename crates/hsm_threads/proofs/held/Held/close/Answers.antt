use Rattle.hsm_threads.proofs.held.Held.close.Goals as goal

pub returns-clause-held : goal.returns-clause-held
returns-clause-held g c = c.self.invariant.0

pub returns-clause-pen : goal.returns-clause-pen
returns-clause-pen g c = c.self.invariant.1
