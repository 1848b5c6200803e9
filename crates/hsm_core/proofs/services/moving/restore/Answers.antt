use Rattle.std.proofs.Common.{refl, sym}
use Rattle.hsm_core.proofs.Moved.{change_served, refused_served}
use Rattle.hsm_core.proofs.services.moving.restore.Goals as goal

pub returns-in-Err : goal.returns-in-Err
returns-in-Err g c = refused_served c.in-Err.why c.in-Err.ensures.judged c.requires.working c.requires.idle c.refused.ensures

pub returns : goal.returns
returns g c = change_served c.restore.ensures.changed (sym c.in_default.ensures.judged) refl refl c.requires.working c.changed.ensures
