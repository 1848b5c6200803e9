use Rattle.std.proofs.Common.{take, false, sym, ◌∙◌, ap}
use Rattle.file_body.specs.HeldBodies.{HeldSegment}
use Rattle.file_body.specs.Contents.{held}
use Rattle.file_body.specs.declared.segments.Content.TheVariants.{Away}
use Rattle.file_body.proofs.Contents.{zeros_kept}
use Rattle.file_body.proofs.segments.Segment.cut.Goals as goal
use Rattle.file_body.proofs.segments.Segment.cut.Goals.{in-Here, in-Away}

pub returns : goal.returns
returns c =
    let kept : HeldSegment → HeldSegment = λ s. record { bytes = take c.args.count s.bytes; away = s.away } in
    elim c.match-self.branch [
      | in-Here w ↦
          ap (λ i. held i.content) w.self-inside-is ∙ (ap (λ n. record { bytes = n; away = false }) w.truncate.ensures.items
          ∙ ap kept (ap held (sym w.in-Here.is) ∙ c.self.view_is))
      | in-Away w ↦
          ap (λ i. held i.content) w.self-inside-is ∙ (ap held (ap Away w.min.ensures) ∙ (zeros_kept c.args.count w.in-Away.zeros
          ∙ ap kept (ap held (sym w.in-Away.is) ∙ c.self.view_is)))
    ]
