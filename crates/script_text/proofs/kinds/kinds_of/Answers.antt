use Rattle.std.proofs.Common.{refl}
use Rattle.std.specs.Prelude.{codes}
use Rattle.script_text.proofs.DataParts.{differ}
use Rattle.script_text.proofs.KindParts.{taken_at, kinds_read, kinds_left}
use Rattle.script_text.proofs.kinds.kinds_of.Goals as goal

pub returns-in-Some : goal.returns-in-Some
returns-in-Some c x h same =
    let is = taken_at c.args.word.now _ _ _ _ _ _ _ _ c.take_kind-read.ensures c.take_kind-write.ensures c.take_kind-truncate.ensures c.take_kind-no_space.ensures in
    let other = differ c.args.word.now c.as_slice.result.now (codes "-") c.eq.result c.eq.ensures c.as_slice.ensures c.if-eq.false in
    kinds_left c.args.word.now c.in-Some.field-0.now _ x (rw c.in-Some.is at is) other same

pub returns-in-None : goal.returns-in-None
returns-in-None c =
    let is = taken_at c.args.word.now _ _ _ _ _ _ _ _ c.take_kind-read.ensures c.take_kind-write.ensures c.take_kind-truncate.ensures c.take_kind-no_space.ensures in
    (tt, kinds_read c.args.word.now _ _ is (rw c.in-None.is refl))
