use Rattle.std.proofs.Common.{◌-◌, ◌++◌, length, set, ◌∙◌, ap, arith}
use Rattle.std.specs.Prelude.{replicate}
use Rattle.file_body.specs.HeldBodies.{pieces}
use Rattle.file_body.proofs.Outcomes.{on_ok, on_err, either}
use Rattle.file_body.proofs.HeldLists.{pieces-set, piece_of, aways-kept}
use Rattle.file_body.proofs.segment_lists.lengthen_last.Goals as goal

pub returns-clause-ok : goal.returns-clause-ok
returns-clause-ok c =
    let last = length c.args.segments.now - 1 in
    on_ok c.lengthen.result
    (λ is. pieces-set c.args.segments.now last c.lengthen.new.self
    ∙ ap (set (pieces c.args.segments.now) last) (ap (λ s. s.bytes) is ∙ ap (λ b. b ++ replicate c.args.count 0) (piece_of c.args.segments.now last c.index-segments-many.result (omega arith))))
    c.lengthen.ensures.ok

pub returns-clause-away : goal.returns-clause-away
returns-clause-away c =
    let last = length c.args.segments.now - 1 in
    aways-kept c.args.segments.now last c.lengthen.new.self c.index-segments-many.result
    (either c.lengthen.result (on_ok c.lengthen.result (λ is. ap (λ s. s.away) is) c.lengthen.ensures.ok) (on_err c.lengthen.result (λ is. ap (λ s. s.away) is) c.lengthen.ensures.err))
