use Rattle.file_store.proofs.Names.{arith, limits_countable}
use Rattle.file_store.proofs.Ended.{changes_on, rises_on}
use Rattle.file_store.proofs.store.FileStore.write.Goals as goal

pub returns : goal.returns
returns g c = record { changed = changes_on c.in_ok-make_room.field-0 c.in_ok-make_room.was c.make_room.ensures.ends c.make_room.ensures.held c.rewrite.ensures.changed }

pub make_room-requires-clause-lawful : goal.make_room-requires-clause-lawful
make_room-requires-clause-lawful g c = (c.requires.some, omega (arith, c.requires.end, (limits_countable c.args.self.now.meta.durable.geometry).0))

pub rewrite-requires-clause-lawful : goal.rewrite-requires-clause-lawful
rewrite-requires-clause-lawful g c = (c.requires.some, omega (arith, c.requires.end, (limits_countable c.args.self.now.meta.durable.geometry).0))

pub rewrite-requires-clause-limited : goal.rewrite-requires-clause-limited
rewrite-requires-clause-limited g c = rw c.make_room.ensures.ends.proceeds.geometry c.requires.end

pub rewrite-requires-clause-rises : goal.rewrite-requires-clause-rises
rewrite-requires-clause-rises g c = rises_on c.make_room.ensures.ends.proceeds c.requires.rises

pub rewrite-requires-clause-access : goal.rewrite-requires-clause-access
rewrite-requires-clause-access g c = c.requires.few
