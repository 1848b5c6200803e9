use Rattle.std.proofs.Common.{◌++◌, [], ◌∷◌, sym, ◌∙◌}
use Rattle.hsm_core.proofs.ToldSegments.{told_at, next_told}
use Rattle.hsm_core.proofs.services.segments.segments_of.Goals as goal

pub loop-segment-preserved : goal.loop-segment-preserved
loop-segment-preserved c =
    c.in_ok-push.ensures.items ∙ (λ i. c.loop-segment.invariant i ++ c.segment_of.ensures i ∷ []) ∙ sym (next_told (told_at c.args.parts.now.places c.args.parts.now.stubs) c.loop-segment.segment)
