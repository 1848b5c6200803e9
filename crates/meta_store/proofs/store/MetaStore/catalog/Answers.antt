use Rattle.meta_store.proofs.store.MetaStore.catalog.Goals as goal

pub returns-clause-lawful : goal.returns-clause-lawful
returns-clause-lawful c = rw (← c.self.view_is) (record { stored = c.self.invariant.0; current = c.geometry-geometry.ensures.valid })
