use Rattle.std.proofs.Common.{◌≡◌, ℕ, length, Some, None, refl, sym, subst}
use Rattle.hsm_types.specs.declared.stores.Limits.{Limits}
use Rattle.plain_model.specs.Segments.{bad_punch}
use Rattle.plain_model.specs.State.{FileState, file_at, bytes_of}
use Rattle.file_store.specs.Stores.{superblock_of}
use Rattle.hsm_core.proofs.Moved.{change_served, refused_served, punch_left}
use Rattle.hsm_core.proofs.Refusing.{stops}
use Rattle.hsm_core.proofs.services.moving.punch.Goals as goal

pub returns-in-Err : goal.returns-in-Err
returns-in-Err g c =
    let limits : Limits = (superblock_of c.args.files.now).geometry.limits in
    let some = subst (λ (n : ℕ). bad_punch limits c.args.offset c.args.len n ≡ Some c.in-Err.why) c.size-size.ensures.size c.in-Err.ensures.judged in
    refused_served c.in-Err.why (stops (bad_punch limits c.args.offset c.args.len (length (bytes_of c.args.handle.key c.args.files.now.held.files))) _ c.in-Err.why some) c.requires.working c.requires.idle c.refused.ensures

pub returns : goal.returns
returns g c =
    let f : FileState = file_at c.args.handle.key c.args.files.now.held.files in
    let limits : Limits = (superblock_of c.args.files.now).geometry.limits in
    let none : bad_punch limits c.args.offset c.args.len (length f.body) ≡ None = subst (λ (n : ℕ). bad_punch limits c.args.offset c.args.len n ≡ None) c.size-size.ensures.size c.in_default.ensures.judged in
    change_served (rw c.punched_to-to.ensures at c.punch.ensures.changed) (sym (punch_left limits f c.args.offset c.args.len none)) refl refl c.requires.working c.changed.ensures
