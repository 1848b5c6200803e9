use Rattle.std.proofs.Common.{◌∙◌, sym, take, drop, ap, arith}
use Rattle.std.specs.List.{concat}
use Rattle.hsm_types.specs.Limits.{segment_bytes}
use Rattle.file_body.specs.HeldBodies.{pieces}
use Rattle.file_body.proofs.Outcomes.{if_some}
use Rattle.file_body.proofs.Cuts.{starts_in, starts_past, segment_taken}
use Rattle.file_body.proofs.HeldLists.{length-pieces, piece_of, away_of}
use Rattle.file_body.proofs.segment_lists.here.Goals as goal

pub returns-then-at-segments-clause-bytes : goal.returns-then-at-segments-clause-bytes
returns-then-at-segments-clause-bytes c =
    if_some c.here.result
    (λ b is. is ∙ (ap (λ s. s.bytes) c.index-segments-at.is ∙ piece_of c.args.segments.now c.args.at c.index-segments-at.result (omega arith)
    ∙ (segment_taken segment_bytes (pieces c.args.segments.now) c.requires c.args.at (omega (arith, length-pieces c.args.segments.now)) ∙ ap (λ n. take segment_bytes (drop n (concat (pieces c.args.segments.now)))) (omega arith))))
    c.here.ensures.bytes

pub returns-then-at-segments-clause-here : goal.returns-then-at-segments-clause-here
returns-then-at-segments-clause-here c =
    let start = starts_in segment_bytes (pieces c.args.segments.now) c.requires c.args.at (omega (arith, length-pieces c.args.segments.now)) in
    let same = ap (λ s. s.away) c.index-segments-at.is ∙ away_of c.args.segments.now c.args.at c.index-segments-at.result (omega arith) in
    (λ some. (omega (arith, start), sym same ∙ c.here.ensures.here.0 some), λ both. c.here.ensures.here.1 (same ∙ both.1))

pub returns-else-at-segments-clause-here : goal.returns-else-at-segments-clause-here
returns-else-at-segments-clause-here c =
    let past = starts_past segment_bytes (pieces c.args.segments.now) c.requires c.args.at (omega (arith, length-pieces c.args.segments.now)) in
    (λ some. absurd cc, λ both. absurd (omega (arith, past, both.0)))
