use Rattle.std.proofs.Common.{◌≡◌, ◌*◌, ◌+◌, ◌-◌, length, get_or, [], ◌∙◌, ap, arith}
use Rattle.std.specs.List.{concat}
use Rattle.std.proofs.lemmas.List.{get_or_read}
use Rattle.hsm_types.specs.Limits.{segment_bytes}
use Rattle.file_body.specs.HeldBodies.{pieces}
use Rattle.file_body.proofs.Cuts.{length_to_last}
use Rattle.file_body.proofs.HeldLists.{no_segment, length-pieces, piece_of}
use Rattle.file_body.proofs.segment_lists.len.Goals as goal

pub overflow_mul-result : goal.overflow_mul-result
overflow_mul-result c = omega (arith, length-pieces c.args.segments.now, length_to_last segment_bytes (pieces c.args.segments.now) c.requires.cut (length c.args.segments.now - 1) (omega (arith, length-pieces c.args.segments.now)))

whole : (c : goal.After-len) → (length c.args.segments.now - 1) * segment_bytes + c.len.result ≡ length (concat (pieces c.args.segments.now))
whole c =
    let last : c.len.result ≡ length (get_or (pieces c.args.segments.now) (length c.args.segments.now - 1) []) =
    c.len.ensures ∙ ap length (ap (λ s. s.bytes) (get_or_read c.args.segments.now _ _ (omega arith) c.index-segments-count.is no_segment) ∙ piece_of c.args.segments.now (length c.args.segments.now - 1) no_segment (omega arith)) in
    omega (arith, last, length_to_last segment_bytes (pieces c.args.segments.now) c.requires.cut (length c.args.segments.now - 1) (omega (arith, length-pieces c.args.segments.now)))

pub overflow_add-result : goal.overflow_add-result
overflow_add-result c = omega (arith, whole c)

pub returns : goal.returns
returns c = whole c
