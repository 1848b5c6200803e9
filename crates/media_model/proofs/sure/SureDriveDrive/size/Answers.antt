use Rattle.std.proofs.Common.{length, ap, sym, ◌∙◌}
use Rattle.media_model.proofs.Holding.{found-object}
use Rattle.media_model.proofs.sure.SureDriveDrive.size.Goals as goal

pub returns-clause-size : goal.returns-clause-size
returns-clause-size c = λ o given. let found = found-object c.args.volume c.args.object c.args.self.now _ c.in_ok-bytes.ensures o given in (found.0, ap length (c.as_slice.ensures.bytes ∙ sym found.1))
