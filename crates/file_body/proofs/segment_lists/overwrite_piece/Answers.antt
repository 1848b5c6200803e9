use Rattle.std.proofs.Common.{◌≡◌, ◌+◌, ◌/◌, ◌%◌, ◌<◌, ◌++◌, [], get_or, length, take, drop, ◌∙◌, ap, sym, arith, length-take-le}
use Rattle.hsm_types.specs.Limits.{segment_bytes}
use Rattle.file_body.specs.HeldBodies.{pieces}
use Rattle.file_body.proofs.Cuts.{inside, fits, overwritten, IsCut-overwritten}
use Rattle.file_body.proofs.HeldLists.{length-pieces, piece_of, away_of, pieces-set, aways-kept}
use Rattle.file_body.proofs.segment_lists.overwrite_piece.Goals as goal

pub bounds-segments-place : goal.bounds-segments-place
bounds-segments-place c =
    omega (arith, length-pieces c.args.segments.now, inside segment_bytes (pieces c.args.segments.now) c.requires.cut (c.args.place / segment_bytes) (c.args.place % segment_bytes) c.min-size.result c.args.place (omega arith) (omega arith) (omega arith))

within : (c : goal.After-index-segments-place) → c.args.place / segment_bytes < length c.args.segments.now
within c =
    omega (arith, length-pieces c.args.segments.now, inside segment_bytes (pieces c.args.segments.now) c.requires.cut (c.args.place / segment_bytes) (c.args.place % segment_bytes) c.min-size.result c.args.place (omega arith) (omega arith) (omega arith))

pub overwrite-requires : goal.overwrite-requires
overwrite-requires c =
    let size : length (take c.min-size.result c.args.bytes.now) ≡ c.min-size.result = length-take-le c.min-size.result c.args.bytes.now (omega arith) in
    let old = piece_of c.args.segments.now (c.args.place / segment_bytes) c.index-segments-place.result (within c) in
    let room = fits segment_bytes (pieces c.args.segments.now) c.requires.cut (c.args.place / segment_bytes) (c.args.place % segment_bytes) c.min-size.result c.args.place [] (omega arith) (omega arith) (omega arith) (omega arith) in record {
      within = omega (arith, size, room, ap length old);
      here = away_of c.args.segments.now (c.args.place / segment_bytes) c.index-segments-place.result (within c) ∙ c.requires.here;
    }

-- the bytes of the segment after it
segment : (c : goal.After-overwrite) → c.overwrite.new.self.bytes ≡ take (c.args.place % segment_bytes) (get_or (pieces c.args.segments.now) (c.args.place / segment_bytes) []) ++ take c.min-size.result c.args.bytes.now
    ++ drop (c.args.place % segment_bytes + length (take c.min-size.result c.args.bytes.now)) (get_or (pieces c.args.segments.now) (c.args.place / segment_bytes) [])
segment c =
    ap (λ s. s.bytes) c.overwrite.ensures
    ∙ ap (λ g. take (c.args.place % segment_bytes) g ++ take c.min-size.result c.args.bytes.now ++ drop (c.args.place % segment_bytes + length (take c.min-size.result c.args.bytes.now)) g)
    (piece_of c.args.segments.now (c.args.place / segment_bytes) c.index-segments-place.result
    (omega (arith, length-pieces c.args.segments.now, inside segment_bytes (pieces c.args.segments.now) c.requires.cut (c.args.place / segment_bytes) (c.args.place % segment_bytes) c.min-size.result c.args.place (omega arith) (omega arith) (omega arith))))

pub returns-clause-bytes : goal.returns-clause-bytes
returns-clause-bytes c =
    let size : length (take c.min-size.result c.args.bytes.now) ≡ c.min-size.result = length-take-le c.min-size.result c.args.bytes.now (omega arith) in
    rw (pieces-set c.args.segments.now (c.args.place / segment_bytes) c.overwrite.new.self)
    (overwritten segment_bytes (pieces c.args.segments.now) c.requires.cut (c.args.place / segment_bytes) (c.args.place % segment_bytes) c.min-size.result c.args.place (take c.min-size.result c.args.bytes.now) [] c.overwrite.new.self.bytes
    (omega arith) (omega arith) (sym size) (omega arith) (omega arith) (segment c))

pub returns-clause-cut : goal.returns-clause-cut
returns-clause-cut c =
    let size : length (take c.min-size.result c.args.bytes.now) ≡ c.min-size.result = length-take-le c.min-size.result c.args.bytes.now (omega arith) in
    rw (pieces-set c.args.segments.now (c.args.place / segment_bytes) c.overwrite.new.self)
    (IsCut-overwritten segment_bytes (pieces c.args.segments.now) c.requires.cut (c.args.place / segment_bytes) (c.args.place % segment_bytes) c.min-size.result c.args.place (take c.min-size.result c.args.bytes.now) [] c.overwrite.new.self.bytes
    (omega arith) (omega arith) (sym size) (omega arith) (omega arith) (segment c))

pub returns-clause-away : goal.returns-clause-away
returns-clause-away c = aways-kept c.args.segments.now (c.args.place / segment_bytes) c.overwrite.new.self c.index-segments-place.result (ap (λ s. s.away) c.overwrite.ensures)
