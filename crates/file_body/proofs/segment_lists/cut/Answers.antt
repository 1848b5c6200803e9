use Rattle.std.proofs.Common.{◌≡◌, ◌+◌, ◌-◌, ◌*◌, ◌/◌, ◌%◌, ◌<◌, [], length, get_or, take, ◌∙◌, ap, refl, arith, length-take-le}
use Rattle.hsm_types.specs.Limits.{segment_bytes}
use Rattle.file_body.specs.HeldBodies.{pieces}
use Rattle.file_body.proofs.Cuts.{segment_is, cut_is, IsCut-cut}
use Rattle.file_body.proofs.HeldLists.{length-pieces, pieces-set, pieces-take, piece_of, stands-cut}
use Rattle.file_body.proofs.segment_lists.cut.Goals as goal

pub index_mut-segment-requires : goal.index_mut-segment-requires
index_mut-segment-requires c = omega (arith, length-pieces c.args.segments.now.items, segment_is segment_bytes (pieces c.args.segments.now.items) c.requires.cut ((c.args.size - 1) / segment_bytes) ((c.args.size - 1) % segment_bytes) (c.args.size - 1) (omega arith) (omega arith))

-- the segment that is cut is one of those that stay
within : (c : goal.After-segments-1) → (c.args.size - 1) / segment_bytes < length c.args.segments.now.items
within c = omega (arith, length-pieces c.args.segments.now.items, segment_is segment_bytes (pieces c.args.segments.now.items) c.requires.cut ((c.args.size - 1) / segment_bytes) ((c.args.size - 1) % segment_bytes) (c.args.size - 1) (omega arith) (omega arith))

stays : (c : goal.After-segments-1) → (c.args.size - 1) / segment_bytes < length c.truncate.new.self.items
stays c = omega (arith, within c, ap length c.truncate.ensures.items, length-take-le ((c.args.size - 1) / segment_bytes + 1) c.args.segments.now.items (omega (arith, within c)))

front : (c : goal.After-segments-1) → pieces c.truncate.new.self.items ≡ take ((c.args.size - 1) / segment_bytes + 1) (pieces c.args.segments.now.items)
front c = ap pieces c.truncate.ensures.items ∙ pieces-take ((c.args.size - 1) / segment_bytes + 1) c.args.segments.now.items

-- its bytes after it
segment : (c : goal.After-segments-1) → c.cut.new.self.bytes ≡ take (c.args.size - (c.args.size - 1) / segment_bytes * segment_bytes) (get_or (pieces c.truncate.new.self.items) ((c.args.size - 1) / segment_bytes) [])
segment c =
    ap (λ s. s.bytes) c.cut.ensures
    ∙ ap (λ s. take (c.args.size - (c.args.size - 1) / segment_bytes * segment_bytes) s.bytes) c.index_mut-segment.ensures.value
    ∙ ap (take (c.args.size - (c.args.size - 1) / segment_bytes * segment_bytes)) (piece_of c.truncate.new.self.items ((c.args.size - 1) / segment_bytes) c.index_mut-segment.result.now (stays c))

pub returns-clause-bytes : goal.returns-clause-bytes
returns-clause-bytes c =
    rw (pieces-set c.truncate.new.self.items ((c.args.size - 1) / segment_bytes) c.cut.new.self)
    (cut_is segment_bytes (pieces c.args.segments.now.items) c.requires.cut ((c.args.size - 1) / segment_bytes) (c.args.size - (c.args.size - 1) / segment_bytes * segment_bytes) c.args.size (pieces c.truncate.new.self.items) [] c.cut.new.self.bytes
    (front c) (omega arith) (omega arith) (omega arith) (omega arith) (segment c))

pub returns-clause-cut : goal.returns-clause-cut
returns-clause-cut c =
    rw (pieces-set c.truncate.new.self.items ((c.args.size - 1) / segment_bytes) c.cut.new.self)
    (IsCut-cut segment_bytes (pieces c.args.segments.now.items) c.requires.cut ((c.args.size - 1) / segment_bytes) (c.args.size - (c.args.size - 1) / segment_bytes * segment_bytes) c.args.size (pieces c.truncate.new.self.items) [] c.cut.new.self.bytes
    (front c) (omega arith) (omega arith) (omega arith) (omega arith) (segment c))

pub returns-clause-away : goal.returns-clause-away
returns-clause-away c = λ j.
    stands-cut c.args.segments.now.items c.truncate.new.self.items ((c.args.size - 1) / segment_bytes) c.args.size j c.cut.new.self c.index_mut-segment.result.now c.truncate.ensures.items (within c) refl (omega arith)
    (ap (λ s. s.away) c.cut.ensures ∙ ap (λ s. s.away) c.index_mut-segment.ensures.value)
