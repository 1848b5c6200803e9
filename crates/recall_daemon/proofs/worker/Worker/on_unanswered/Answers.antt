use Rattle.recall_daemon.proofs.Folds.{unanswered_forgets, unanswered_else}
use Rattle.recall_daemon.proofs.worker.Worker.on_unanswered.Goals as goal

pub returns-in-NoToken : goal.returns-in-NoToken
returns-in-NoToken c = λ asked told more. rw (unanswered_forgets _ _ _ c.in-NoToken.is) (c.forget.ensures asked told more)

pub returns-in_default : goal.returns-in_default
returns-in_default c = λ asked told more. rw (unanswered_else _ _ _ c.in_default.not-NoToken c.in_default.not-NotYours c.requires.lives) (c.put_off.ensures asked told more)
