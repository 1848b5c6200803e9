use Rattle.std.proofs.Common.{refl}
use Rattle.meta_store.proofs.HeldFiles.{change-same}
use Rattle.meta_store.proofs.catalog.resize.Goals as goal

pub returns-in-Some : goal.returns-in-Some
returns-in-Some c = λ key e at found. rw c.in-Some.is (c.set_size_at.ensures key at)

pub returns-in_default : goal.returns-in_default
returns-in_default c = λ key e at found. rw (c.in_default.is, change-same key e c.args.table.now.files found) refl
