use Rattle.std.proofs.Common.{◌≡◌, ◌/◌, ◌%◌, [], get_or, length, ◌∙◌, ap, arith}
use Rattle.hsm_types.specs.Limits.{segment_bytes}
use Rattle.file_body.specs.HeldBodies.{pieces}
use Rattle.file_body.proofs.Cuts.{inside, fits, read_piece}
use Rattle.file_body.proofs.HeldLists.{length-pieces, piece_of}
use Rattle.file_body.proofs.segment_lists.piece_at.Goals as goal

pub bounds-segments-place : goal.bounds-segments-place
bounds-segments-place c =
    omega (arith, length-pieces c.args.segments.now, inside segment_bytes (pieces c.args.segments.now) c.requires.cut (c.args.place / segment_bytes) (c.args.place % segment_bytes) c.min-size.result c.args.place (omega arith) (omega arith) (omega arith))

-- the bytes of the segment
segment : (c : goal.After-as_slice) → c.as_slice.result.now ≡ get_or (pieces c.args.segments.now) (c.args.place / segment_bytes) []
segment c = c.as_slice.ensures ∙ (ap (λ s. s.bytes) c.index-segments-place.is ∙ piece_of c.args.segments.now (c.args.place / segment_bytes) _
    (omega (arith, length-pieces c.args.segments.now, inside segment_bytes (pieces c.args.segments.now) c.requires.cut (c.args.place / segment_bytes) (c.args.place % segment_bytes) c.min-size.result c.args.place (omega arith) (omega arith) (omega arith))))

pub slice_bounds-result-end : goal.slice_bounds-result-end
slice_bounds-result-end c =
    omega (
      arith,
      ap length (segment c),
      fits segment_bytes (pieces c.args.segments.now) c.requires.cut (c.args.place / segment_bytes) (c.args.place % segment_bytes) c.min-size.result c.args.place [] (omega arith) (omega arith) (omega arith) (omega arith),
    )

pub returns-clause-bytes : goal.returns-clause-bytes
returns-clause-bytes c = read_piece segment_bytes (pieces c.args.segments.now) c.requires.cut (c.args.place / segment_bytes) (c.args.place % segment_bytes) c.min-size.result _ c.args.place _ []
    (omega arith) (omega arith) (omega arith) (omega arith) (segment c.before) (omega arith)
