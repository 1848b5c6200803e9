use Rattle.std.proofs.Common.{◌++◌, refl}
use Rattle.byteorder.specs.Endian.{big_bytes}
use Rattle.meta_journal.proofs.Framing.{frame-kept, frame-framed}
use Rattle.meta_journal.proofs.frames.put_frame.Goals as goal

pub returns-clause-framed : goal.returns-clause-framed
returns-clause-framed c = frame-framed c.args.bytes.now _ _ _ (big_bytes 4 c.args.frame.size ++ big_bytes 8 c.args.frame.number ++ big_bytes 4 c.args.frame.count) _ _ (rw c.head.ensures refl) refl c.requires.fits c.head.ensures c.overwrite.ensures c.overwrite-2.ensures

pub returns-clause-kept : goal.returns-clause-kept
returns-clause-kept c = frame-kept c.args.bytes.now _ _ _ (big_bytes 4 c.args.frame.size ++ big_bytes 8 c.args.frame.number ++ big_bytes 4 c.args.frame.count) _ _ (rw c.head.ensures refl) refl c.requires.fits c.head.ensures c.overwrite.ensures c.overwrite-2.ensures
