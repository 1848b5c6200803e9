use Rattle.std.proofs.Common.{length, ap, sym, ◌∙◌, List, ℕ}
use Rattle.media_model.specs.Objects.{read_from}
use Rattle.media_model.proofs.Holding.{found-object}
use Rattle.media_model.proofs.sure.SureDriveDrive.read.Goals as goal

pub returns-clause-bytes : goal.returns-clause-bytes
returns-clause-bytes c = λ o given.
    let found = found-object c.args.volume c.args.object c.args.self.now _ c.in_ok-bytes.ensures o given in (
      found.0,
      c.read_at.ensures.there ∙ ap (read_from c.args.at (length c.args.buf.now)) (c.as_slice.ensures.bytes ∙ sym found.1),
      c.read_at.ensures.count ∙ ap (λ (l : List ℕ). length (read_from c.args.at (length c.args.buf.now) l)) (c.as_slice.ensures.bytes ∙ sym found.1),
    )
