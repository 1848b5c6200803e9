use Rattle.std.proofs.Common.{◌≤◌, ◌∙◌, ap, sym}
use Rattle.std.proofs.lemmas.List.{take-replicate}
use Rattle.hsm_types.specs.Limits.{segment_bytes}
use Rattle.file_body.specs.Contents.{held}
use Rattle.file_body.proofs.segments.Segment.as_slice.Goals as goal

pub returns-in-Away : goal.returns-in-Away
returns-in-Away c =
    let fits : c.in-Away.count ≤ segment_bytes = rw c.in-Away.is at c.self.invariant in
    take-replicate c.in-Away.count segment_bytes 0 fits ∙ ap (λ s. s.bytes) (ap held (sym c.in-Away.is) ∙ c.self.view_is)
