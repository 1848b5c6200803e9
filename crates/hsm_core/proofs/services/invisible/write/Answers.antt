use Rattle.std.proofs.Common.{refl, sym}
use Rattle.plain_model.specs.State.{file_at}
use Rattle.plain_model.proofs.SegmentChanges.{writing_sound}
use Rattle.file_store.specs.Stores.{superblock_of}
use Rattle.hsm_core.proofs.Moved.{change_served, refused_served}
use Rattle.hsm_core.proofs.services.invisible.write.Goals as goal

pub write-requires-clause-here : goal.write-requires-clause-here
write-requires-clause-here g c =
    (writing_sound (file_at c.args.handle.key c.args.files.now.held.files) (superblock_of c.args.files.now) c.args.files.now.held c.args.offset c.as_slice-bytes.result.now c.in_default.ensures.judged).1

pub returns-in-Err : goal.returns-in-Err
returns-in-Err g c = refused_served c.in-Err.why (rw c.as_slice-bytes.ensures at c.in-Err.ensures.judged) c.requires.working c.requires.idle c.refused.ensures

pub returns : goal.returns
returns g c =
    change_served (rw c.as_slice-bytes.ensures at c.write.ensures.changed) (sym (rw c.as_slice-bytes.ensures at c.in_default.ensures.judged)) refl refl c.requires.working c.changed.ensures
