use Rattle.file_store.proofs.Names.{◌≡◌}
use Rattle.hsm_types.specs.Stubs.{print_of, stub_at, entry_print}
use Rattle.plain_model.specs.Services.{kept_of}
use Rattle.std.proofs.lemmas.Result.{err_from_is_err_and}
use Rattle.file_store.proofs.Ended.{changes_on, rises_on}
use Rattle.file_store.proofs.SealEvents.{comes_back}
use Rattle.file_store.proofs.SoundChanges.{of-entry}
use Rattle.file_store.proofs.store.FileStore.restore.Goals as goal

pub returns-in_err-make_room : goal.returns-in_err-make_room
returns-in_err-make_room g c =
    let p = err_from_is_err_and c.from_residual.result c.from_residual.ensures.1 in
    rw (p.1, p.2) record { changed = record { held = tt; ends = c.in_err-make_room.ensures.ends } }

pub returns : goal.returns
returns g c =
    record { changed = rw c.as_slice-bytes.ensures.bytes at (changes_on c.in_ok-make_room.field-0 c.in_ok-make_room.was c.make_room.ensures.ends c.make_room.ensures.held c.rewrite.ensures.changed) }

pub make_room-requires-clause-lawful : goal.make_room-requires-clause-lawful
make_room-requires-clause-lawful g c =
    rw c.as_slice-bytes.ensures.bytes
    (comes_back c.self.invariant.0 c.self.invariant.1.meta c.args.key (rw (← c.self.view_is) at c.requires.live) c.args.segment c.args.bytes.now (rw (← c.self.view_is) at c.requires.offline) (rw (← c.self.view_is) at c.requires.print) (rw (← c.self.view_is) at c.requires.start))

pub rewrite-requires-clause-lawful : goal.rewrite-requires-clause-lawful
rewrite-requires-clause-lawful g c =
    rw c.as_slice-bytes.ensures.bytes
    (comes_back c.self.invariant.0 c.self.invariant.1.meta c.args.key (rw (← c.self.view_is) at c.requires.live) c.args.segment c.args.bytes.now (rw (← c.self.view_is) at c.requires.offline) (rw (← c.self.view_is) at c.requires.print) (rw (← c.self.view_is) at c.requires.start))

pub rewrite-requires-clause-sound : goal.rewrite-requires-clause-sound
rewrite-requires-clause-sound g c =
    let at = of-entry (λ stub. entry_print stub.entry ≡ print_of c.args.bytes.now) (stub_at c.args.segment (kept_of c.args.key c.args.self.now.held.files).stubs) c.requires.offline c.requires.print in
    rw (c.make_room.ensures.held, c.as_slice-bytes.ensures.bytes) (c.requires.start, at)

pub rewrite-requires-clause-offline : goal.rewrite-requires-clause-offline
rewrite-requires-clause-offline g c = rw c.make_room.ensures.held c.requires.offline

pub rewrite-requires-clause-rises : goal.rewrite-requires-clause-rises
rewrite-requires-clause-rises g c = rises_on c.make_room.ensures.ends.proceeds c.requires.rises
