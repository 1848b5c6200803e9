use Rattle.std.proofs.Common.{refl, inl, true}
use Rattle.recall_daemon.proofs.Folds.{refused_forgets, refused_else}
use Rattle.recall_daemon.proofs.worker.Worker.on_refused.Goals as goal

pub returns-in-NoObject : goal.returns-in-NoObject
returns-in-NoObject c =
    let hand = c.requires.hand.0 in
    λ asked told more. c.respond.ensures _ asked told (rw c.in-NoObject.is refl) (record hand { gone = true }, rw (c.in-NoObject.is, c.requires.hand.1) refl, c.requires.hand.2, inl refl)

pub returns-in-NoToken : goal.returns-in-NoToken
returns-in-NoToken c = λ asked told more. rw (refused_forgets _ _ _ c.in-NoToken.is) (c.forget.ensures asked told more)

pub returns-in_default : goal.returns-in_default
returns-in_default c = λ asked told more. rw (refused_else _ _ _ c.in_default.not-NoObject c.in_default.not-NoToken c.in_default.not-NotYours c.requires.lives) (c.put_off.ensures asked told more)
