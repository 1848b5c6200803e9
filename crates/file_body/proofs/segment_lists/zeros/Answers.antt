use Rattle.std.proofs.Common.{◌≡◌, List, ℕ, ◌++◌, ◌∷◌, [], length, refl, ◌∙◌, ap, arith}
use Rattle.std.specs.Prelude.{replicate, false}
use Rattle.std.proofs.lemmas.List.{length-replicate}
use Rattle.hsm_types.specs.Limits.{segment_bytes}
use Rattle.file_body.specs.HeldBodies.{HeldSegment, pieces}
use Rattle.file_body.proofs.Cuts.{zeros_more, IsCut-push, full_push}
use Rattle.file_body.proofs.HeldLists.{pieces-append, here-push}
use Rattle.file_body.proofs.segment_lists.zeros.Goals as goal

pub loop-left-preserved : goal.loop-left-preserved
loop-left-preserved c =
    let zeros : List ℕ = replicate c.min-size.result 0 in
    let new : HeldSegment = record { bytes = zeros; away = false } in
    let size : length zeros ≡ c.min-size.result = length-replicate c.min-size.result 0 in
    let pushed : c.push.new.self.items ≡ c.loop-left.segments.items ++ new ∷ [] = rw (← c.in_ok-zeros.ensures) (grind arith) in
    let now : pieces c.push.new.self.items ≡ pieces c.loop-left.segments.items ++ zeros ∷ [] = ap pieces pushed ∙ pieces-append c.loop-left.segments.items (new ∷ []) in record {
      zeros = rw now (zeros_more (pieces c.loop-left.segments.items) c.min-size.result c.loop-left.left _ (omega arith) c.loop-left.invariant.zeros);
      cut = rw now (IsCut-push segment_bytes (pieces c.loop-left.segments.items) zeros c.loop-left.invariant.cut (c.loop-left.invariant.full (omega arith)) (omega arith) (omega arith));
      full = λ more. rw now (full_push segment_bytes (pieces c.loop-left.segments.items) zeros (c.loop-left.invariant.full (omega arith)) (omega arith));
      here = λ j. rw pushed (here-push c.loop-left.segments.items new j c.loop-left.invariant.here refl);
    }
