use Rattle.file_store.proofs.Names.{◌≡◌, ◌*◌, ◌/◌, ◌<◌, ℕ, min, length, ◌∙◌, ap, arith, length-replicate}
use Rattle.file_store.proofs.Loaded.{zeros-more, shaped-more, shaped-all}
use Rattle.file_store.proofs.loading.zeros.Goals as goal
use Rattle.hsm_types.specs.Limits.{segment_bytes}

pub loop-segment-preserved : goal.loop-segment-preserved
loop-segment-preserved c =
    let segment = c.loop-segment.segment in
    let old = c.loop-segment.body in
    let start : segment_bytes * segment < c.args.size = omega arith in
    let at : length old.bytes / segment_bytes ≡ segment = omega (arith, ap length c.loop-segment.invariant.bytes, length-replicate {A = ℕ} (min c.args.size (segment_bytes * segment)) 0) in
    record {
      bytes = zeros-more c.args.size segment c.min-end.result old.bytes c.lengthen.new.body.bytes start (omega arith) c.loop-segment.invariant.bytes c.in_ok-lengthen.ensures.bytes;
      away = shaped-more c.args.stubs.now old c.lengthen.new.body (length old.bytes / segment_bytes) segment at c.loop-segment.invariant.away (rw c.is_offline.ensures at c.in_ok-lengthen.ensures.away);
    }

pub returns-clause-here : goal.returns-clause-here
returns-clause-here c = λ j. c.loop-segment.invariant.away j ∙ shaped-all c.args.stubs.now c.args.size c.loop-segment.segment j c.requires.starts (omega arith)
