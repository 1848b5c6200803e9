use Rattle.file_store.proofs.Names.{None, refl, ◌≡◌, ◌+◌, ◌∙◌, ap, arith, length, free, used, geometry_of, touched, effect_of, bytes_of, geometry-bounded}
use Rattle.std.proofs.lemmas.Result.{on_ok_weaker}
use Rattle.file_store.proofs.Ended.{ends_done}
use Rattle.file_store.proofs.store.FileStore.make_room.Goals as goal

pub overflow_cast-count : goal.overflow_cast-count
overflow_cast-count g c =
    let many : c.count.result ≡ length (touched (effect_of c.args.change) (length (bytes_of c.args.key c.args.self.now.held.files))) =
    c.count.ensures ∙ ap length (c.touched-blocks.ensures ∙ ap (touched (effect_of c.args.change)) c.size.ensures.size) in
    omega (arith, many, c.requires.room, (geometry-bounded c.args.self.now.meta.durable.geometry).1)

pub returns-clause-enough : goal.returns-clause-enough
returns-clause-enough g c =
    let new = c.sync.new.self in
    on_ok_weaker c.sync.result (λ (is : length (free new.space) + used new.held.files ≡ (geometry_of new.meta.durable.geometry).blocks). let left = rw (c.sync.ensures.held, c.sync.ensures.ends.proceeds.geometry) at is in omega (arith, left, c.requires.room)) c.sync.ensures.room

pub returns-then-has_free-clause-ends : goal.returns-then-has_free-clause-ends
returns-then-has_free-clause-ends g c = ends_done g.D.Disk _ _ c.args.number None (c.has_failed-failed.ensures.idle c.requires.working c.args.number) tt refl c.requires.working refl

pub sync-requires-clause-rises : goal.sync-requires-clause-rises
sync-requires-clause-rises g c = c.requires.rises
