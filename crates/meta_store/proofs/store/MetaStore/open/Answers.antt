use Rattle.disk_model.proofs.Steps.{sames_on}
use Rattle.meta_store.proofs.OpenedImages.{backs_read, synced_read}
use Rattle.meta_store.proofs.store.MetaStore.open.Goals as goal

pub returns-clause-backs : goal.returns-clause-backs
returns-clause-backs g c = backs_read g.D.Disk _ _ c.in-Ok.ensures.durable c.inspect.ensures.keeps _ c.inspect.ensures.length c.inspect.ensures.found

pub returns-clause-not_store : goal.returns-clause-not_store
returns-clause-not_store g c = λ is image given. c.inspect.ensures.not_store is image (c.sync_all.ensures.given.1 image given)

pub returns-clause-corrupt : goal.returns-clause-corrupt
returns-clause-corrupt g c = λ place is image given. c.inspect.ensures.corrupt place is image (c.sync_all.ensures.given.1 image given)

pub returns-clause-synced : goal.returns-clause-synced
returns-clause-synced g c = synced_read g.D.Disk _ _ c.in-Ok.ensures.durable c.inspect.ensures.keeps _ _ c.sync_all.ensures.given

pub returns-clause-keeps : goal.returns-clause-keeps
returns-clause-keeps g c = sames_on g.D.Disk _ _ _ c.sync_all.ensures.keeps c.inspect.ensures.keeps
