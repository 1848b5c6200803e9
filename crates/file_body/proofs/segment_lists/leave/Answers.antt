use Rattle.std.proofs.Common.{◌≡◌, ◌*◌, ◌<◌, ◌∙◌, [], length, get_or, ap, arith}
use Rattle.std.specs.Prelude.{replicate, ◌||◌}
use Rattle.std.specs.List.{concat}
use Rattle.std.proofs.lemmas.List.{length-replicate}
use Rattle.hsm_types.specs.Limits.{segment_bytes}
use Rattle.file_body.specs.HeldBodies.{pieces, stands_away}
use Rattle.file_body.proofs.Cuts.{starts_in, starts_past, starts_most, length_zeros, zeros_none, zeros_more_of, zeros_written, IsCut-set}
use Rattle.file_body.proofs.HeldLists.{length-pieces, piece_of, pieces-set, left-none, left-more, left-up_to}
use Rattle.file_body.proofs.segment_lists.leave.Goals as goal

pub loop-at-init : goal.loop-at-init
loop-at-init c =
    let most = starts_most (pieces c.args.segments.now) c.requires.cut c.args.from c.requires.within in record {
      from = omega arith;
      end = omega (arith, most, length-pieces c.args.segments.now, c.requires.order);
      bytes = zeros_none (concat (pieces c.args.segments.now)) (segment_bytes * c.args.from) c.requires.within;
      cut = c.requires.cut;
      away = λ j. left-none c.args.from j (stands_away c.args.segments.now j);
    }

pub leave-requires : goal.leave-requires
leave-requires c =
    omega (arith, ap length (piece_of c.loop-at.segments c.loop-at.at c.index-segments-at.result (omega arith)), c.loop-at.invariant.cut.most c.loop-at.at (omega (arith, length-pieces c.loop-at.segments)))

pub loop-at-preserved : goal.loop-at-preserved
loop-at-preserved c =
    let body = concat (pieces c.args.segments.now) in
    let within : c.loop-at.at < length c.loop-at.segments = omega arith in
    let old = piece_of c.loop-at.segments c.loop-at.at c.index-segments-at.result within in
    let new : c.leave.new.self.bytes ≡ replicate (length (get_or (pieces c.loop-at.segments) c.loop-at.at [])) 0 = ap (λ s. s.bytes) c.leave.ensures ∙ ap (λ g. replicate (length g) 0) old in
    let same : length (concat (pieces c.loop-at.segments)) ≡ length body = length_zeros body (concat (pieces c.loop-at.segments)) (segment_bytes * c.args.from) (segment_bytes * c.loop-at.at) (omega (arith, c.loop-at.invariant.from)) c.requires.within c.loop-at.invariant.bytes in
    let set_is = pieces-set c.loop-at.segments c.loop-at.at c.leave.new.self in record {
      from = omega (arith, c.loop-at.invariant.from);
      end = omega arith;
      bytes = rw set_is (zeros_more_of (pieces c.loop-at.segments) c.loop-at.invariant.cut body c.leave.new.self.bytes c.args.from c.loop-at.at c.loop-at.invariant.from (omega (arith, within, length-pieces c.loop-at.segments)) same new c.loop-at.invariant.bytes);
      cut = rw set_is (IsCut-set segment_bytes (pieces c.loop-at.segments) c.loop-at.at c.leave.new.self.bytes (ap length new ∙ length-replicate (length (get_or (pieces c.loop-at.segments) c.loop-at.at [])) 0) c.loop-at.invariant.cut);
      away = left-more c.loop-at.segments c.args.segments.now c.args.from c.loop-at.at c.leave.new.self c.loop-at.invariant.from within (ap (λ s. s.away) c.leave.ensures) c.loop-at.invariant.away;
    }

pub returns-clause-bytes : goal.returns-clause-bytes
returns-clause-bytes c =
    let body = concat (pieces c.args.segments.now) in
    let past = starts_past segment_bytes (pieces c.args.segments.now) c.requires.cut (length c.args.segments.now) (omega (arith, length-pieces c.args.segments.now)) in
    c.loop-at.invariant.bytes
    ∙ zeros_written body (segment_bytes * c.args.from) (segment_bytes * c.loop-at.at) (segment_bytes * c.args.to) c.requires.within (omega (arith, c.loop-at.invariant.from)) (omega (arith, c.requires.order)) (omega (arith, past, c.loop-at.invariant.end))

pub returns-clause-away : goal.returns-clause-away
returns-clause-away c = λ j.
    let count = length-pieces c.args.segments.now in
    c.loop-at.invariant.away j
    ∙ ap (λ t. stands_away c.args.segments.now j || t)
    (left-up_to c.args.from c.loop-at.at c.args.to (length c.args.segments.now) (segment_bytes * j) (length (concat (pieces c.args.segments.now))) j (omega (arith, c.loop-at.invariant.end))
    (λ some. omega (arith, starts_in segment_bytes (pieces c.args.segments.now) c.requires.cut j (omega (arith, count, some))))
    (λ none. omega (arith, starts_past segment_bytes (pieces c.args.segments.now) c.requires.cut j (omega (arith, count, none)))))
