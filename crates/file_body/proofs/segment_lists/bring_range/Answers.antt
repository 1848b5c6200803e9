use Rattle.std.proofs.Common.{◌≡◌, ◌*◌, ◌/◌, max, ap, ◌∙◌, sym, arith}
use Rattle.hsm_types.specs.Limits.{segment_bytes}
use Rattle.file_body.specs.HeldBodies.{stands_away}
use Rattle.file_body.proofs.segment_lists.bring_range.Goals as goal

pub returns-clause-enough : goal.returns-clause-enough
returns-clause-enough c = λ here.
    c.bring.ensures.enough (λ j low high.
    let at : max c.args.start (segment_bytes * j) / segment_bytes ≡ j = omega arith in
    sym (ap (stands_away c.args.segments.now) at) ∙ here (max c.args.start (segment_bytes * j)) (omega arith) (omega arith))

pub returns-clause-others : goal.returns-clause-others
returns-clause-others c = λ j misses. c.bring.ensures.others j (λ low high. misses (max c.args.start (segment_bytes * j)) (omega arith) (omega arith) (omega arith))
