use Rattle.file_store.proofs.store.FileStore.remove.Goals as goal

pub returns : goal.returns
returns g c = record { changed = record { held = c.record.ensures.held; ends = c.record.ensures.ends } }
