use Rattle.std.proofs.Common.{◌+◌, ◌/◌, ◌≤◌, length, get_or, ◌∙◌, ap, arith}
use Rattle.std.specs.Prelude.{false}
use Rattle.std.specs.List.{concat}
use Rattle.std.proofs.lemmas.List.{take_rest}
use Rattle.hsm_types.specs.Limits.{segment_bytes}
use Rattle.file_body.specs.HeldBodies.{pieces}
use Rattle.file_body.proofs.Cuts.{written_more}
use Rattle.file_body.proofs.segment_lists.overwrite.Goals as goal

pub overwrite_piece-done-requires-clause-here : goal.overwrite_piece-done-requires-clause-here
overwrite_piece-done-requires-clause-here c =
    ap (λ a. get_or a ((c.args.offset + c.loop-done.done) / segment_bytes) false) c.loop-done.invariant.away ∙ c.requires.here (c.args.offset + c.loop-done.done) (omega arith) (omega arith)

pub loop-done-preserved : goal.loop-done-preserved
loop-done-preserved c =
    let left = rw (take_rest c.args.bytes.now c.loop-done.done) at c.overwrite_piece-done.ensures.bytes in
    let within : c.loop-done.done + c.overwrite_piece-done.result ≤ length c.args.bytes.now = grind arith in record {
      within = within;
      written = left ∙ written_more (concat (pieces c.args.segments.now)) (concat (pieces c.loop-done.segments)) c.args.bytes.now c.args.offset c.loop-done.done c.overwrite_piece-done.result c.loop-done.invariant.written c.requires.within within;
      cut = c.overwrite_piece-done.ensures.cut;
      away = c.overwrite_piece-done.ensures.away ∙ c.loop-done.invariant.away;
    }
