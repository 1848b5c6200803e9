use Rattle.file_store.proofs.Names.{ap, subst, Rewrite, new_size, brings, BringsAway}
use Rattle.file_store.proofs.Rooms.{of_ok, brings-none, cut-alike, left-alike}
use Rattle.file_store.proofs.rewrites.Rewrite.undo.Goals as goal

pub returns-in-Restore : goal.returns-in-Restore
returns-in-Restore c = λ old has long gone.
    left-alike c.args.self old c.args.body.now c.leave.new.self has c.in-Restore.segment (λ j. ap (λ (x : Rewrite). brings x j) c.in-Restore.is) (ap (λ (x : Rewrite). new_size x old.bytes) c.in-Restore.is)
    (subst (λ (x : Rewrite). BringsAway x old) c.in-Restore.is gone) c.leave.ensures.bytes c.leave.ensures.away

pub returns-in_default : goal.returns-in_default
returns-in_default c = λ old has long gone.
    let done = c.resize.ensures.cut c.requires.size in
    cut-alike c.args.self old c.args.body.now c.resize.new.self has c.args.size (brings-none c.args.self c.in_default.not-Restore) long (of_ok c.resize.result done c.resize.ensures.ok) (of_ok c.resize.result done c.resize.ensures.away)
