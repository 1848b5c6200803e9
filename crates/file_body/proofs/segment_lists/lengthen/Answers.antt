use Rattle.std.proofs.Common.{◌≡◌, ◌-◌, ◌++◌, [], length, get_or, set, ◌∙◌, ap, arith}
use Rattle.std.specs.Prelude.{replicate, false}
use Rattle.std.proofs.lemmas.Grind.{common_steps}
use Rattle.hsm_types.specs.Limits.{segment_bytes}
use Rattle.file_body.specs.HeldBodies.{pieces, aways}
use Rattle.file_body.proofs.Cuts.{lengthened, IsCut-lengthened}
use Rattle.file_body.proofs.HeldLists.{length-pieces, pieces-append, stands-append}
use Rattle.file_body.proofs.segment_lists.lengthen.Goals as goal

-- the old segments, the last of them filled, and those of the rest
both : (c : goal.After-drop-rest-2) → c.append.new.self.items ≡ c.lengthen_last.new.segments ++ c.in_ok-rest.rest.items
both c = grind (arith, common_steps)

now_are : (c : goal.After-drop-rest-2) → pieces c.append.new.self.items ≡ set (pieces c.args.segments.now.items) (length (pieces c.args.segments.now.items) - 1) (get_or (pieces c.args.segments.now.items) (length (pieces c.args.segments.now.items) - 1) [] ++ replicate c.min-fill.result 0) ++ pieces c.in_ok-rest.rest.items
now_are c =
    let kept : c.as_mut_slice.result.now ≡ c.args.segments.now.items = c.as_mut_slice.ensures.value ∙ c.reserve.ensures.items in
    let grown = rw kept at c.in_ok-lengthen_last.ensures.ok in
    ap pieces (both c) ∙ (pieces-append c.lengthen_last.new.segments c.in_ok-rest.rest.items ∙ ap (λ r. r ++ pieces c.in_ok-rest.rest.items) (rw (length-pieces c.args.segments.now.items) grown))

pub returns-clause-ok : goal.returns-clause-ok
returns-clause-ok c =
    let none = rw c.as_slice.ensures.value at c.room.ensures.none in
    let count = length-pieces c.args.segments.now.items in
    rw (now_are c) (lengthened segment_bytes (pieces c.args.segments.now.items) (pieces c.in_ok-rest.rest.items) c.min-fill.result c.args.count (omega arith) (λ no. omega (arith, none (omega (arith, count, no)))) c.in_ok-rest.ensures.bytes)

pub returns-clause-cut : goal.returns-clause-cut
returns-clause-cut c =
    let count = length-pieces c.args.segments.now.items in
    let last = rw (c.as_slice.ensures.value, ← count) at c.room.ensures.last in
    rw (now_are c) (IsCut-lengthened segment_bytes (pieces c.args.segments.now.items) (pieces c.in_ok-rest.rest.items) c.requires.cut c.in_ok-rest.ensures.cut c.min-fill.result c.args.count
    (λ some. omega (arith, last some)) (λ some fewer. omega (arith, last some)) c.in_ok-rest.ensures.bytes)

pub returns-clause-away : goal.returns-clause-away
returns-clause-away c = λ j.
    let kept : c.as_mut_slice.result.now ≡ c.args.segments.now.items = c.as_mut_slice.ensures.value ∙ c.reserve.ensures.items in
    rw (both c) (stands-append c.lengthen_last.new.segments c.in_ok-rest.rest.items j c.in_ok-rest.ensures.here ∙ ap (λ a. get_or a j false) (c.in_ok-lengthen_last.ensures.away ∙ ap aways kept))
