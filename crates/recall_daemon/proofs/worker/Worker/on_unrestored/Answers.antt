use Rattle.std.proofs.Common.{refl, inr, true}
use Rattle.recall_daemon.proofs.Folds.{unrestored_else}
use Rattle.recall_daemon.proofs.worker.Worker.on_unrestored.Goals as goal

pub returns-in-NoSpace : goal.returns-in-NoSpace
returns-in-NoSpace c =
    let hand = c.requires.hand.0 in
    λ asked told more. c.respond.ensures _ asked told (rw c.in-NoSpace.is refl) (record hand { short = true }, rw (c.in-NoSpace.is, c.requires.hand.1) refl, c.requires.hand.2, inr (refl, refl))

pub returns-in_default : goal.returns-in_default
returns-in_default c = λ asked told more. rw (unrestored_else _ _ _ c.in_default.not-NoSpace) (c.on_refused.ensures asked told more)
