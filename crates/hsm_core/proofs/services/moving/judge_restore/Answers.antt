use Rattle.std.proofs.Common.{length, sym, ◌∙◌, ap, arith}
use Rattle.hsm_types.specs.Stubs.{stub_at}
use Rattle.plain_model.specs.Services.{kept_of}
use Rattle.hsm_core.proofs.Moved.{restored_len}
use Rattle.hsm_core.proofs.services.moving.judge_restore.Goals as goal

-- the bytes are as many as the segment has
pub touched_by_restore-requires-clause-segment : goal.touched_by_restore-requires-clause-segment
touched_by_restore-requires-clause-segment g c =
    let len = restored_len (stub_at c.args.segment (kept_of c.args.key c.args.files.now.held.files).stubs) c.in-Offline.entry c.args.bytes.now _ (sym c.in-Offline.ensures.state) c.state.ensures.len (sym c.print.ensures ∙ c.in_ok-judge_print.ensures.same ∙ c.fingerprint.ensures) in
    omega (arith, len, ap length c.as_slice.ensures.bytes)

pub touched_by_restore-requires-clause-end : goal.touched_by_restore-requires-clause-end
touched_by_restore-requires-clause-end g c =
    let len = restored_len (stub_at c.args.segment (kept_of c.args.key c.args.files.now.held.files).stubs) c.in-Offline.entry c.args.bytes.now _ (sym c.in-Offline.ensures.state) c.state.ensures.len (sym c.print.ensures ∙ c.in_ok-judge_print.ensures.same ∙ c.fingerprint.ensures) in
    omega (arith, len, ap length c.as_slice.ensures.bytes, c.in_ok-judge_segment.ensures.start, c.in_ok-judge_segment.ensures.limit)
